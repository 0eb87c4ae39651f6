use Rattle.std.proofs.Common.{◌≡◌, List, map, take}
use Rattle.rr_trace.specs.Columns.{place}
use Rattle.rr_trace.specs.Names.{Text, numbered}
use Rattle.rr_trace.specs.View.{SameNumbers, plain_port, plain_ports}
use Rattle.rr_trace.proofs.header.output_places.Given as goal

abbrev pub invariant-loop-port : goal.invariant-loop-port
invariant-loop-port l = (names : List Text) → SameNumbers l.columns (numbered 0 names)
    → l.places.items ≡ map (place (plain_ports l.ports) names) (map plain_port (take l.port-index l.ports.outputs.items))
