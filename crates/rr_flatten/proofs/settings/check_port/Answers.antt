use Rattle.rr_flatten.proofs.Positions.{port_there}
use Rattle.rr_flatten.proofs.settings.check_port.Goals as goal

pub returns-then-place-ports : goal.returns-then-place-ports
returns-then-place-ports c = port_there c.args.loops.now c.args.names.now c.args.ports.now c.args.place c.args.over c.args.found _ _ c.if-place-ports.true c.note_expression-found.ensures
