use Rattle.std.proofs.Common.{◌∙◌, sym}
use Rattle.rr_syntax.specs.View.{plain_item}
use Rattle.rr_declarations.specs.Parameters.{add_item_parameters}
use Rattle.rr_declarations.proofs.Steps.{each_next, each_ends, each_done, refused}
use Rattle.rr_declarations.proofs.parameters.add_items_parameters.Goals as goal

pub loop-item-preserved : goal.loop-item-preserved
loop-item-preserved c = record {
  walked = each_next plain_item (add_item_parameters c.args.given.now) c.args.items.now c.loop-item.item-index c.item-item.result c.loop-item.names c.add_item_parameters.new.names c.loop-item-test.true c.item-item.is c.in_ok-add_item_parameters.ensures.value ∙ c.loop-item.invariant.walked;
  constants = λ h. c.in_ok-add_item_parameters.ensures.constants (c.loop-item.invariant.constants h);
}

pub returns-in_err-add_item_parameters-clause-value : goal.returns-in_err-add_item_parameters-clause-value
returns-in_err-add_item_parameters-clause-value c =
    let h = each_ends plain_item (add_item_parameters c.args.given.now) c.args.items.now c.loop-item.item-index c.item-item.result c.loop-item.names c.in_err-add_item_parameters.field-0.0 c.loop-item-test.true c.item-item.is c.in_err-add_item_parameters.ensures.value in
    refused c.from_residual.result _ _ c.in_err-add_item_parameters.field-0.0 c.from_residual.ensures.1 (rw c.loop-item.invariant.walked at h)

pub returns-clause-value : goal.returns-clause-value
returns-clause-value c = sym c.loop-item.invariant.walked ∙ each_done _ _ _ _ _ c.loop-item-test.false
