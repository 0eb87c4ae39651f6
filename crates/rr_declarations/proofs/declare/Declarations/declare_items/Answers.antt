use Rattle.std.proofs.Common.{◌∙◌, sym}
use Rattle.rr_syntax.specs.View.{plain_item}
use Rattle.rr_declarations.specs.Declarations.{declare_item}
use Rattle.rr_declarations.specs.View.{plain_declarations}
use Rattle.rr_declarations.proofs.Steps.{each_next, each_ends, each_done, refused}
use Rattle.rr_declarations.proofs.declare.Declarations.declare_items.Goals as goal

pub loop-item-preserved : goal.loop-item-preserved
loop-item-preserved c = record {
  walked = each_next plain_item (declare_item c.args.brackets.now c.args.known.now) c.args.items.now c.loop-item.item-index c.item-item.result (plain_declarations c.loop-item.self) (plain_declarations c.declare_item.new.self) c.loop-item-test.true c.item-item.is c.in_ok-declare_item.ensures.value ∙ c.loop-item.invariant.walked;
  same = c.in_ok-declare_item.ensures.same ∙ c.loop-item.invariant.same;
}

pub returns-in_err-declare_item-clause-value : goal.returns-in_err-declare_item-clause-value
returns-in_err-declare_item-clause-value c =
    let h = each_ends plain_item (declare_item c.args.brackets.now c.args.known.now) c.args.items.now c.loop-item.item-index c.item-item.result (plain_declarations c.loop-item.self) c.in_err-declare_item.field-0.0 c.loop-item-test.true c.item-item.is c.in_err-declare_item.ensures.value in
    refused c.from_residual.result _ _ c.in_err-declare_item.field-0.0 c.from_residual.ensures.1 (rw c.loop-item.invariant.walked at h)

pub returns-clause-value : goal.returns-clause-value
returns-clause-value c = sym c.loop-item.invariant.walked ∙ each_done _ _ _ _ _ c.loop-item-test.false
