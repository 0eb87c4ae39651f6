use Rattle.std.proofs.Common.{◌∙◌, sym}
use Rattle.rr_syntax.specs.View.{plain_port}
use Rattle.rr_declarations.specs.Declarations.{declare_ports}
use Rattle.rr_declarations.specs.View.{plain_declarations}
use Rattle.rr_declarations.proofs.Steps.{each_more, each_stops, each_done, refused}
use Rattle.rr_declarations.proofs.declare.Declarations.declare_groups.Goals as goal

pub loop-group-preserved : goal.loop-group-preserved
loop-group-preserved c = record {
  walked = each_more plain_port (declare_ports c.args.brackets.now c.args.known.now) c.args.groups.now c.loop-group.group-index _ (plain_declarations c.loop-group.self) (plain_declarations c.declare_ports.new.self) c.loop-group-test.true c.in_ok-declare_ports.ensures.value ∙ c.loop-group.invariant.walked;
  same = c.in_ok-declare_ports.ensures.same ∙ c.loop-group.invariant.same;
}

pub returns-in_err-declare_ports-clause-value : goal.returns-in_err-declare_ports-clause-value
returns-in_err-declare_ports-clause-value c =
    let h = each_stops plain_port (declare_ports c.args.brackets.now c.args.known.now) c.args.groups.now c.loop-group.group-index _ (plain_declarations c.loop-group.self) c.in_err-declare_ports.field-0.0 c.loop-group-test.true c.in_err-declare_ports.ensures.value in
    refused c.from_residual.result _ _ c.in_err-declare_ports.field-0.0 c.from_residual.ensures.1 (rw c.loop-group.invariant.walked at h)

pub returns-clause-value : goal.returns-clause-value
returns-clause-value c = sym c.loop-group.invariant.walked ∙ each_done _ _ _ _ _ c.loop-group-test.false
