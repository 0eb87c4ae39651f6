use Rattle.std.proofs.Common.{rules, ◌≡◌, ◌∙◌, ◌<◌, ◌≤◌, ◌+◌, ◌-◌, ap, sym, subst, arith, length, get_or}
use Rattle.std.specs.Prelude.{slice_get}
use Rattle.std.specs.List.{between}
use Rattle.std.proofs.lemmas.Option.{get_or_from_slice_get}
use Rattle.rr_watch_lists.specs.Holdings.{IsInside, held_at}
use Rattle.rr_watch_lists.proofs.HandLaws.{hand_front, hand_back, hand_behind, hand_inside}
use Rattle.rr_watch_lists.proofs.hand.Hand.clause.Goals as goal

pub index-requires : goal.index-requires
index-requires c =
    let h = c.self.inside in
    let b = subst (λ v. c.args.place < length v.held) (sym c.self.view_is) c.requires in
    let low : length h.watched.items ≤ c.args.place = omega (arith, h.watched.ok.0, c.len-known.ensures, c.if-place-known.false) in
    omega (arith, h.added.ok.0, h.watched.ok.0, c.len-known.ensures, hand_behind h.formula.now.clauses h.watched.items h.added.items h.lits.items c.self.invariant c.args.place low b)

pub offset_bounds-deref-start : goal.offset_bounds-deref-start
offset_bounds-deref-start c =
    let h = c.self.inside in
    let b = subst (λ v. c.args.place < length v.held) (sym c.self.view_is) c.requires in
    let low : length h.watched.items ≤ c.args.place = omega (arith, h.watched.ok.0, c.len-known.ensures, c.if-place-known.false) in
    let n : c.len-known.result ≡ length h.watched.items = omega (arith, h.watched.ok.0, c.len-known.ensures) in
    let a = c.index.result.now in
    let is : c.index.result.now ≡ get_or h.added.items (c.args.place - length h.watched.items) a = c.index.ensures ∙ ap (λ k. get_or h.added.items (c.args.place - k) a) n in
    let i : IsInside h.lits.items a = subst (IsInside h.lits.items) (sym is) (hand_inside h.formula.now.clauses h.watched.items h.added.items h.lits.items c.self.invariant c.args.place a low b) in
    let within : a.start ≤ length c.deref.result.now = omega (arith, i.order, i.end, ap length c.deref.ensures.value) in
    search rules

pub slice_bounds-result-count : goal.slice_bounds-result-count
slice_bounds-result-count c =
    let h = c.self.inside in
    let b = subst (λ v. c.args.place < length v.held) (sym c.self.view_is) c.requires in
    let low : length h.watched.items ≤ c.args.place = omega (arith, h.watched.ok.0, c.len-known.ensures, c.if-place-known.false) in
    let n : c.len-known.result ≡ length h.watched.items = omega (arith, h.watched.ok.0, c.len-known.ensures) in
    let a = c.index.result.now in
    let is : c.index.result.now ≡ get_or h.added.items (c.args.place - length h.watched.items) a = c.index.ensures ∙ ap (λ k. get_or h.added.items (c.args.place - k) a) n in
    let i : IsInside h.lits.items a = subst (IsInside h.lits.items) (sym is) (hand_inside h.formula.now.clauses h.watched.items h.added.items h.lits.items c.self.invariant c.args.place a low b) in
    i.order

pub slice_bounds-result-start : goal.slice_bounds-result-start
slice_bounds-result-start c =
    let h = c.self.inside in
    let b = subst (λ v. c.args.place < length v.held) (sym c.self.view_is) c.requires in
    let low : length h.watched.items ≤ c.args.place = omega (arith, h.watched.ok.0, c.len-known.ensures, c.if-place-known.false) in
    let n : c.len-known.result ≡ length h.watched.items = omega (arith, h.watched.ok.0, c.len-known.ensures) in
    let a = c.index.result.now in
    let is : c.index.result.now ≡ get_or h.added.items (c.args.place - length h.watched.items) a = c.index.ensures ∙ ap (λ k. get_or h.added.items (c.args.place - k) a) n in
    let i : IsInside h.lits.items a = subst (IsInside h.lits.items) (sym is) (hand_inside h.formula.now.clauses h.watched.items h.added.items h.lits.items c.self.invariant c.args.place a low b) in
    i.order

pub slice_bounds-result-end : goal.slice_bounds-result-end
slice_bounds-result-end c =
    let h = c.self.inside in
    let b = subst (λ v. c.args.place < length v.held) (sym c.self.view_is) c.requires in
    let low : length h.watched.items ≤ c.args.place = omega (arith, h.watched.ok.0, c.len-known.ensures, c.if-place-known.false) in
    let n : c.len-known.result ≡ length h.watched.items = omega (arith, h.watched.ok.0, c.len-known.ensures) in
    let a = c.index.result.now in
    let is : c.index.result.now ≡ get_or h.added.items (c.args.place - length h.watched.items) a = c.index.ensures ∙ ap (λ k. get_or h.added.items (c.args.place - k) a) n in
    let i : IsInside h.lits.items a = subst (IsInside h.lits.items) (sym is) (hand_inside h.formula.now.clauses h.watched.items h.added.items h.lits.items c.self.invariant c.args.place a low b) in
    subst (λ x. a.end ≤ length x) (sym c.deref.ensures.value) i.end

pub returns-in-Some : goal.returns-in-Some
returns-in-Some c =
    let h = c.self.inside in
    let x = c.in-Some.clause.now in
    let inside : c.args.place < length h.watched.items = omega (arith, h.watched.ok.0, c.len-known.ensures, c.if-place-known.true) in
    let at : c.args.place + 1 - 1 ≡ c.args.place = omega arith in
    let read : get_or h.formula.now.clauses c.args.place x ≡ x = get_or_from_slice_get h.formula.now.clauses c.args.place x x (ap (slice_get h.formula.now.clauses) (sym at) ∙ sym (c.in-Some.ensures.found (omega arith))) in
    c.lits.ensures ∙ sym read ∙ ap (λ n. n.clause) (sym (hand_front h.formula.now.clauses h.watched.items h.added.items h.lits.items c.self.invariant c.args.place x (record { first = 0; second = 0 }) inside)) ∙ ap (λ v. (held_at v.held c.args.place).clause) c.self.view_is

pub returns-else-place-known : goal.returns-else-place-known
returns-else-place-known c =
    let h = c.self.inside in
    let b = subst (λ v. c.args.place < length v.held) (sym c.self.view_is) c.requires in
    let low : length h.watched.items ≤ c.args.place = omega (arith, h.watched.ok.0, c.len-known.ensures, c.if-place-known.false) in
    let n : c.len-known.result ≡ length h.watched.items = omega (arith, h.watched.ok.0, c.len-known.ensures) in
    let a = c.index.result.now in
    let is : c.index.result.now ≡ get_or h.added.items (c.args.place - length h.watched.items) a = c.index.ensures ∙ ap (λ k. get_or h.added.items (c.args.place - k) a) n in
    ap (λ x. between a.start a.end x) c.deref.ensures.value
    ∙ ap (λ x. between x.start x.end h.lits.items) is
    ∙ ap (λ x. x.clause) (sym (hand_back h.formula.now.clauses h.watched.items h.added.items h.lits.items c.self.invariant c.args.place a low b))
    ∙ ap (λ v. (held_at v.held c.args.place).clause) c.self.view_is
