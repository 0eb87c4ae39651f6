use Rattle.rr_syntax.specs.View.{plain_port}
use Rattle.rr_guard.proofs.Lists.{any_more, any_end}
use Rattle.rr_overwrite.specs.Overwrites.{port_sets}
use Rattle.rr_overwrite.proofs.variables.add_set_by_ports.Goals as goal

pub loop-group-preserved : goal.loop-group-preserved
loop-group-preserved c = λ name.
    any_more (port_sets name) plain_port _ _ _ c.args.groups.now c.loop-group.group-index _ c.loop-group-test.true (c.in_ok-add_set_by_port.ensures name) (c.loop-group.invariant name)

pub returns : goal.returns
returns c = λ name. any_end (port_sets name) plain_port _ _ c.args.groups.now c.loop-group.group-index c.loop-group-test.false (c.loop-group.invariant name)
