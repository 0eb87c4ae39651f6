use Rattle.std.proofs.Common.{◌≡◌, ◌∙◌, ◌<◌, ◌≤◌, ◌-◌, ap, sym, subst, arith, length, get_or, set}
use Rattle.std.proofs.lemmas.List.{length-set}
use Rattle.rr_watch_lists.specs.Holdings.{Holding, held_at, holds}
use Rattle.rr_watch_lists.specs.declared.hand.Added.{Added}
use Rattle.rr_watch_lists.proofs.HandLaws.{hand_behind, hand_set_front, hand_set_back}
use Rattle.rr_watch_lists.proofs.hand.Hand.rewatch.Goals as goal

pub index_mut-requires-else-place-known : goal.index_mut-requires-else-place-known
index_mut-requires-else-place-known c =
    let h = c.self.inside in
    let b = subst (λ v. c.args.place < length v.held) (sym c.self.view_is) c.requires in
    let low : length h.watched.items ≤ c.args.place = omega (arith, h.watched.ok.0, c.len-known.ensures, c.if-place-known.false) in
    omega (arith, h.added.ok.0, h.watched.ok.0, c.len-known.ensures, hand_behind h.formula.now.clauses h.watched.items h.added.items h.lits.items c.self.invariant c.args.place low b)

pub returns-then-place-known : goal.returns-then-place-known
returns-then-place-known c =
    let h = c.self.inside in
    let fs = h.formula.now.clauses in
    let w = c.args.watched in
    let inside : c.args.place < length h.watched.items = omega (arith, h.watched.ok.0, c.len-known.ensures, c.if-place-known.true) in
    let e = hand_set_front fs h.watched.items h.added.items h.lits.items c.self.invariant c.args.place w inside in
    ap (λ x. record { formula = fs; known = length (set h.watched.items c.args.place w); held = x }) e
    ∙ ap (λ n. record { formula = fs; known = n; held = set (holds fs h.watched.items h.added.items h.lits.items) c.args.place (record (held_at (holds fs h.watched.items h.added.items h.lits.items) c.args.place) { first = w.first; second = w.second }) }) (length-set h.watched.items c.args.place w)
    ∙ ap (λ (v : Holding). record v { held = set v.held c.args.place (record (held_at v.held c.args.place) { first = w.first; second = w.second }) }) c.self.view_is

pub returns-else-place-known : goal.returns-else-place-known
returns-else-place-known c =
    let h = c.self.inside in
    let fs = h.formula.now.clauses in
    let w = c.args.watched in
    let b = subst (λ v. c.args.place < length v.held) (sym c.self.view_is) c.requires in
    let low : length h.watched.items ≤ c.args.place = omega (arith, h.watched.ok.0, c.len-known.ensures, c.if-place-known.false) in
    let n : c.len-known.result ≡ length h.watched.items = omega (arith, h.watched.ok.0, c.len-known.ensures) in
    let a = c.index_mut-else-place-known.result.now in
    let e = hand_set_back fs h.watched.items h.added.items h.lits.items c.self.invariant c.args.place a w low b in
    ap (λ (x : Added). record { formula = fs; known = length h.watched.items; held = holds fs h.watched.items (set h.added.items (c.args.place - c.len-known.result) (record x { watched = w })) h.lits.items }) c.index_mut-else-place-known.ensures.value
    ∙ ap (λ k. record { formula = fs; known = length h.watched.items; held = holds fs h.watched.items (set h.added.items (c.args.place - k) (record (get_or h.added.items (c.args.place - k) a) { watched = w })) h.lits.items }) n
    ∙ ap (λ x. record { formula = fs; known = length h.watched.items; held = x }) e
    ∙ ap (λ (v : Holding). record v { held = set v.held c.args.place (record (held_at v.held c.args.place) { first = w.first; second = w.second }) }) c.self.view_is
