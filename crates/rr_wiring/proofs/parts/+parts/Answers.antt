use Rattle.std.proofs.Common.{rules, ◌≡◌, ◌+◌, ◌-◌, ◌<◌, ◌≤◌, sym, ap, subst, arith, length, drop, ℕ}
use Rattle.std.specs.Prelude.{IfSome, IfNone}
use Rattle.rr_syntax.specs.declared.tree.Expr.{the_lemmas}
use Rattle.rr_syntax.specs.Tree.{Tree, Concat}
use Rattle.rr_syntax.specs.View.{plain, plain_list}
use Rattle.rr_expr.specs.declared.types.Shape.{Shape}
use Rattle.rr_expr.specs.Values.{form, widths}
use Rattle.rr_wiring.specs.Parts.{PartAt}
use Rattle.rr_wiring.proofs.Walking.{found, fault_of, joined_faults, joined_is, mapped, widths_end, widths_of}
use Rattle.rr_wiring.proofs.parts.+parts.Goals as goal

pub part_at-part_in-requires : goal.part_at-part_in-requires
part_at-part_in-requires t c = (search (rules, the_lemmas), joined_faults c.args.scope.now c.args.expr.now c.in-Concat.parts c.in-Concat.is c.requires.none)

pub part_at-returns-in-Concat-clause-part : goal.part_at-returns-in-Concat-clause-part
part_at-returns-in-Concat-clause-part t c =
    subst (λ (u : Tree). IfSome c.part_in.result (λ r. PartAt c.args.scope.now (plain r.expr.now) r.place u c.args.place)) (sym (joined_is c.args.expr.now c.in-Concat.parts c.in-Concat.is)) c.part_in.ensures.part

pub part_at-returns-in-Concat-clause-past : goal.part_at-returns-in-Concat-clause-past
unfolding form
part_at-returns-in-Concat-clause-past t c =
    subst (λ (u : Tree). IfNone c.part_in.result ((form c.args.scope.now u).width ≤ c.args.place)) (sym (joined_is c.args.expr.now c.in-Concat.parts c.in-Concat.is)) c.part_in.ensures.past

pub part_in-loop-left-init : goal.part_in-loop-left-init
part_in-loop-left-init t c = record { left = omega arith; rest = omega (arith, widths_end c.args.scope.now c.args.parts.now (length c.args.parts.now) (omega arith)) }

pub part_in-shape_of-width-requires-in-loop-left : goal.part_in-shape_of-width-requires-in-loop-left
part_in-shape_of-width-requires-in-loop-left t c =
    let l : c.loop-left.left - 1 < length c.args.parts.now = omega (arith, c.loop-left.invariant.left, c.loop-left-test.true) in
    record { none = fault_of c.args.scope.now c.args.parts.now (c.loop-left.left - 1) c.index-parts-left.result c.requires.none l c.index-parts-left.is }

pub part_in-part_at-requires : goal.part_in-part_at-requires
part_in-part_at-requires t c =
    let l : c.loop-left.left - 1 < length c.args.parts.now = omega (arith, c.loop-left.invariant.left, c.loop-left-test.true) in
    (search (rules, the_lemmas, l), fault_of c.args.scope.now c.args.parts.now (c.loop-left.left - 1) c.index-parts-left.result c.requires.none l c.index-parts-left.is)

pub part_in-returns-then-rest-width-clause-part : goal.part_in-returns-then-rest-width-clause-part
part_in-returns-then-rest-width-clause-part t c =
    let l : c.loop-left.left - 1 < length c.args.parts.now = omega (arith, c.loop-left.invariant.left, c.loop-left-test.true) in
    let j : c.loop-left.left ≡ c.loop-left.left - 1 + 1 = omega (arith, c.loop-left-test.true) in
    mapped c.part_at.result (λ r. PartAt c.args.scope.now (plain r.expr.now) r.place (plain c.index-parts-left.result) c.loop-left.rest) (λ r. PartAt c.args.scope.now (plain r.expr.now) r.place (Concat (plain_list c.args.parts.now)) c.args.place)
    (λ r p. found c.args.scope.now c.args.parts.now (c.loop-left.left - 1) c.loop-left.left c.loop-left.rest c.args.place c.shape_of-width.result.width c.index-parts-left.result (plain r.expr.now) r.place l c.index-parts-left.is j
    (ap (λ (a : Shape). a.width) c.shape_of-width.ensures.value) c.if-rest-width.true c.loop-left.invariant.rest p)
    c.part_at.ensures.part

pub part_in-loop-left-preserved : goal.part_in-loop-left-preserved
part_in-loop-left-preserved t c =
    let l : c.loop-left.left - 1 < length c.args.parts.now = omega (arith, c.loop-left.invariant.left, c.loop-left-test.true) in
    let j : c.loop-left.left ≡ c.loop-left.left - 1 + 1 = omega (arith, c.loop-left-test.true) in
    let n = widths_of c.args.scope.now c.args.parts.now (c.loop-left.left - 1) c.index-parts-left.result l c.index-parts-left.is in
    record {
      left = omega arith;
      rest = omega (arith, n, ap (λ (a : Shape). a.width) c.shape_of-width.ensures.value, c.if-rest-width.false, c.loop-left.invariant.rest, ap (λ (k : ℕ). widths c.args.scope.now (plain_list (drop k c.args.parts.now))) j);
    }
