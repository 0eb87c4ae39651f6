use Rattle.std.proofs.Common.{◌∙◌, sym}
use Rattle.rr_syntax.specs.View.{plain_parameter}
use Rattle.rr_declarations.specs.Parameters.{add_parameters}
use Rattle.rr_declarations.proofs.Steps.{each_more, each_stops, each_done, refused}
use Rattle.rr_declarations.proofs.parameters.add_header_parameters.Goals as goal

pub loop-one-preserved : goal.loop-one-preserved
loop-one-preserved c = record {
  walked = each_more plain_parameter (add_parameters c.args.given.now) c.args.params.now c.loop-one.one-index _ c.loop-one.names c.add_parameters.new.names c.loop-one-test.true c.in_ok-add_parameters.ensures.value ∙ c.loop-one.invariant.walked;
  constants = λ h. c.in_ok-add_parameters.ensures.constants (c.loop-one.invariant.constants h);
}

pub returns-in_err-add_parameters-clause-value : goal.returns-in_err-add_parameters-clause-value
returns-in_err-add_parameters-clause-value c =
    let h = each_stops plain_parameter (add_parameters c.args.given.now) c.args.params.now c.loop-one.one-index _ c.loop-one.names c.in_err-add_parameters.field-0.0 c.loop-one-test.true c.in_err-add_parameters.ensures.value in
    refused c.from_residual.result _ _ c.in_err-add_parameters.field-0.0 c.from_residual.ensures.1 (rw c.loop-one.invariant.walked at h)

pub returns-clause-value : goal.returns-clause-value
returns-clause-value c = sym c.loop-one.invariant.walked ∙ each_done _ _ _ _ _ c.loop-one-test.false
