use Rattle.std.proofs.Common.{◌∙◌, sym}
use Rattle.rr_syntax.specs.View.{plain_assignment, plain_parameter}
use Rattle.rr_declarations.specs.Parameters.{add_parameter}
use Rattle.rr_declarations.proofs.Steps.{each_more, each_stops, each_done, refused}
use Rattle.rr_declarations.proofs.parameters.add_sets.Goals as goal

pub loop-set-preserved : goal.loop-set-preserved
loop-set-preserved c = record {
  walked = each_more plain_assignment (add_parameter c.args.given.now (plain_parameter c.args.one.now) c.args.range) c.args.one.now.sets.now c.loop-set.set-index _ c.loop-set.names c.add_parameter.new.names c.loop-set-test.true c.in_ok-add_parameter.ensures.value ∙ c.loop-set.invariant.walked;
  constants = λ h. c.in_ok-add_parameter.ensures.constants (c.loop-set.invariant.constants h);
}

pub returns-in_err-add_parameter-clause-value : goal.returns-in_err-add_parameter-clause-value
returns-in_err-add_parameter-clause-value c =
    let h = each_stops plain_assignment (add_parameter c.args.given.now (plain_parameter c.args.one.now) c.args.range) c.args.one.now.sets.now c.loop-set.set-index _ c.loop-set.names c.in_err-add_parameter.field-0.0 c.loop-set-test.true c.in_err-add_parameter.ensures.value in
    refused c.from_residual.result _ _ c.in_err-add_parameter.field-0.0 c.from_residual.ensures.1 (rw c.loop-set.invariant.walked at h)

pub returns-clause-value : goal.returns-clause-value
returns-clause-value c = sym c.loop-set.invariant.walked ∙ each_done _ _ _ _ _ c.loop-set-test.false
