use Rattle.std.proofs.Common.{◌∙◌, sym}
use Rattle.rr_syntax.specs.View.{plain_identifier}
use Rattle.rr_declarations.specs.Declarations.{declare_integer}
use Rattle.rr_declarations.specs.View.{plain_declarations}
use Rattle.rr_declarations.proofs.Steps.{each_more, each_stops, each_done, refused}
use Rattle.rr_declarations.proofs.declare.Declarations.declare_integers.Goals as goal

pub loop-named-preserved : goal.loop-named-preserved
unfolding plain_identifier
loop-named-preserved c = record {
  walked = each_more plain_identifier (declare_integer c.args.brackets.now c.args.known.now) c.args.names.now c.loop-named.named-index _ (plain_declarations c.loop-named.self) (plain_declarations c.declare_integer.new.self) c.loop-named-test.true c.in_ok-declare_integer.ensures.value ∙ c.loop-named.invariant.walked;
  same = c.in_ok-declare_integer.ensures.same ∙ c.loop-named.invariant.same;
}

pub returns-in_err-declare_integer-clause-value : goal.returns-in_err-declare_integer-clause-value
unfolding plain_identifier
returns-in_err-declare_integer-clause-value c =
    let h = each_stops plain_identifier (declare_integer c.args.brackets.now c.args.known.now) c.args.names.now c.loop-named.named-index _ (plain_declarations c.loop-named.self) c.in_err-declare_integer.field-0.0 c.loop-named-test.true c.in_err-declare_integer.ensures.value in
    refused c.from_residual.result _ _ c.in_err-declare_integer.field-0.0 c.from_residual.ensures.1 (rw c.loop-named.invariant.walked at h)

pub returns-clause-value : goal.returns-clause-value
returns-clause-value c = sym c.loop-named.invariant.walked ∙ each_done _ _ _ _ _ c.loop-named-test.false
