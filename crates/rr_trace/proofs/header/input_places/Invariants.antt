use Rattle.std.proofs.Common.{map}
use Rattle.rr_trace.specs.View.{plain_port, plain_ports}
use Rattle.rr_trace.proofs.Placing.{Placed}
use Rattle.rr_trace.proofs.header.input_places.Given as goal

abbrev pub invariant-loop-port : goal.invariant-loop-port
invariant-loop-port l = Placed (plain_ports l.ports) l.columns (map plain_port l.ports.inputs.items) l.port-index l.places.items
