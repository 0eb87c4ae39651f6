use Rattle.std.proofs.Common.{◌∙◌, sym}
use Rattle.rr_syntax.specs.View.{plain_identifier}
use Rattle.rr_declarations.specs.Declarations.{add_plain_name}
use Rattle.rr_declarations.proofs.Steps.{each_more, each_stops, each_done, refused}
use Rattle.rr_declarations.proofs.brackets.add_plain_names.Goals as goal

pub loop-named-preserved : goal.loop-named-preserved
loop-named-preserved c = record {
  walked = each_more plain_identifier (add_plain_name c.args.directed.now) c.args.header.now c.loop-named.named-index _ c.loop-named.names c.add_plain_name.new.names c.loop-named-test.true c.in_ok-add_plain_name.ensures ∙ c.loop-named.invariant.walked;
}

pub returns-in_err-add_plain_name : goal.returns-in_err-add_plain_name
returns-in_err-add_plain_name c =
    let h = each_stops plain_identifier (add_plain_name c.args.directed.now) c.args.header.now c.loop-named.named-index _ c.loop-named.names c.in_err-add_plain_name.field-0.0 c.loop-named-test.true c.in_err-add_plain_name.ensures in
    refused c.from_residual.result _ _ c.in_err-add_plain_name.field-0.0 c.from_residual.ensures.1 (rw c.loop-named.invariant.walked at h)

pub returns : goal.returns
returns c = sym c.loop-named.invariant.walked ∙ each_done _ _ _ _ _ c.loop-named-test.false
