use Rattle.std.proofs.Common.{◌∙◌, sym}
use Rattle.rr_syntax.specs.View.{plain_declarator}
use Rattle.rr_declarations.specs.Declarations.{declare}
use Rattle.rr_declarations.specs.View.{plain_declarations}
use Rattle.rr_declarations.proofs.Steps.{each_more, each_stops, each_done, refused}
use Rattle.rr_declarations.proofs.declare.Declarations.declare_names.Goals as goal

pub loop-name-preserved : goal.loop-name-preserved
unfolding plain_declarator
loop-name-preserved c = record {
  walked = each_more plain_declarator (declare c.args.brackets.now c.args.known.now c.args.one.now) c.args.names.now c.loop-name.name-index _ (plain_declarations c.loop-name.self) (plain_declarations c.declare.new.self) c.loop-name-test.true c.in_ok-declare.ensures.value ∙ c.loop-name.invariant.walked;
  same = c.in_ok-declare.ensures.same ∙ c.loop-name.invariant.same;
}

pub returns-in_err-declare-clause-value : goal.returns-in_err-declare-clause-value
unfolding plain_declarator
returns-in_err-declare-clause-value c =
    let h = each_stops plain_declarator (declare c.args.brackets.now c.args.known.now c.args.one.now) c.args.names.now c.loop-name.name-index _ (plain_declarations c.loop-name.self) c.in_err-declare.field-0.0 c.loop-name-test.true c.in_err-declare.ensures.value in
    refused c.from_residual.result _ _ c.in_err-declare.field-0.0 c.from_residual.ensures.1 (rw c.loop-name.invariant.walked at h)

pub returns-clause-value : goal.returns-clause-value
returns-clause-value c = sym c.loop-name.invariant.walked ∙ each_done _ _ _ _ _ c.loop-name-test.false
