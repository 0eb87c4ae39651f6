use Rattle.std.proofs.Common.{◌≡◌, ◌∙◌, ◌<◌, ◌≤◌, ◌-◌, [], ap, sym, subst, arith, length, get_or}
use Rattle.rr_watch_lists.specs.Holdings.{held_at}
use Rattle.rr_watch_lists.proofs.HandLaws.{hand_front, hand_back, hand_behind}
use Rattle.rr_watch_lists.proofs.hand.Hand.id.Goals as goal

pub index-requires : goal.index-requires
index-requires c =
    let h = c.self.inside in
    let b = subst (λ v. c.args.place < length v.held) (sym c.self.view_is) c.requires in
    let low : length h.watched.items ≤ c.args.place = omega (arith, h.watched.ok.0, c.len-known.ensures, c.if-place-known.false) in
    omega (arith, h.added.ok.0, h.watched.ok.0, c.len-known.ensures, hand_behind h.formula.now.clauses h.watched.items h.added.items h.lits.items c.self.invariant c.args.place low b)

pub returns-then-place-known : goal.returns-then-place-known
returns-then-place-known c =
    let h = c.self.inside in
    let inside : c.args.place < length h.watched.items = omega (arith, h.watched.ok.0, c.len-known.ensures, c.if-place-known.true) in
    ap (λ n. n.id) (sym (hand_front h.formula.now.clauses h.watched.items h.added.items h.lits.items c.self.invariant c.args.place [] (record { first = 0; second = 0 }) inside)) ∙ ap (λ v. (held_at v.held c.args.place).id) c.self.view_is

pub returns-else-place-known : goal.returns-else-place-known
returns-else-place-known c =
    let h = c.self.inside in
    let b = subst (λ v. c.args.place < length v.held) (sym c.self.view_is) c.requires in
    let low : length h.watched.items ≤ c.args.place = omega (arith, h.watched.ok.0, c.len-known.ensures, c.if-place-known.false) in
    let n : c.len-known.result ≡ length h.watched.items = omega (arith, h.watched.ok.0, c.len-known.ensures) in
    let a = c.index.result.now in
    ap (λ x. x.id) (c.index.ensures ∙ ap (λ k. get_or h.added.items (c.args.place - k) a) n)
    ∙ ap (λ x. x.id) (sym (hand_back h.formula.now.clauses h.watched.items h.added.items h.lits.items c.self.invariant c.args.place a low b))
    ∙ ap (λ v. (held_at v.held c.args.place).id) c.self.view_is
