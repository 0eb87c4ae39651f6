use Rattle.std.proofs.Common.{◌∙◌, List, length, sym, ap}
use Rattle.rr_directive.specs.declared.origin.Origin.{Origin}
use Rattle.rr_directive.specs.Places.{offset_at}
use Rattle.rr_edit.specs.View.{plain_edit}
use Rattle.rr_map.proofs.Walks.{here, first}
use Rattle.rr_lint_file.proofs.Fixed.{first_fixed, lifts_all, lifts_next}
use Rattle.rr_lint_file.proofs.mend.fixed_at.Goals as goal

pub lifts-requires-clause-order : goal.lifts-requires-clause-order
lifts-requires-clause-order c =
    (first _ (length c.args.expanded.now.origins.items) _ (plain_edit c.edit-item.result) _ (here c.args.made.now c.loop-edit.edit-index c.edit-item.result c.loop-edit-test.true c.edit-item.is) c.loop-edit.invariant.order.1).order

pub lifts-requires-clause-within : goal.lifts-requires-clause-within
lifts-requires-clause-within c =
    rw c.deref.ensures.value
    (first _ (length c.args.expanded.now.origins.items) _ (plain_edit c.edit-item.result) _ (here c.args.made.now c.loop-edit.edit-index c.edit-item.result c.loop-edit-test.true c.edit-item.is) c.loop-edit.invariant.order.1).within

pub loop-edit-preserved : goal.loop-edit-preserved
loop-edit-preserved c =
    let h = here c.args.made.now c.loop-edit.edit-index c.edit-item.result c.loop-edit-test.true c.edit-item.is in
    record {
      lift = lifts_next c.args.expanded.now.origins.items c.args.made.now c.loop-edit.edit-index c.edit-item.result c.loop-edit-test.true c.edit-item.is c.loop-edit.invariant.lift (rw c.deref.ensures.value at (sym c.lifts.ensures ∙ c.if-not-lifts.false));
      order = (_, (first _ (length c.args.expanded.now.origins.items) _ (plain_edit c.edit-item.result) _ h c.loop-edit.invariant.order.1).rest_order);
    }

pub returns-then-not-lifts-clause-some : goal.returns-then-not-lifts-clause-some
returns-then-not-lifts-clause-some c = (
  plain_edit c.edit-item.result,
  (
    first_fixed c.args.expanded.now.origins.items c.args.made.now c.loop-edit.edit-index c.edit-item.result c.loop-edit-test.true c.edit-item.is c.loop-edit.invariant.lift (rw c.deref.ensures.value at (sym c.if-not-lifts.true ∙ c.lifts.ensures)),
    c.offset.ensures ∙ (ap (λ (os : List Origin). offset_at os c.anchor.result) c.deref-then-not-lifts.ensures.value ∙ ap (offset_at c.args.expanded.now.origins.items) c.anchor.ensures),
  ),
)

pub returns-clause-none : goal.returns-clause-none
returns-clause-none c = lifts_all c.args.expanded.now.origins.items c.args.made.now c.loop-edit.edit-index c.loop-edit-test.false c.loop-edit.invariant.lift
