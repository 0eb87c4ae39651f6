use Rattle.std.proofs.Common.{◌≡◌, ◌≤◌, map, take}
use Rattle.std.specs.Prelude.{All}
use Rattle.rr_vcd_text.specs.Dump.{Declared}
use Rattle.rr_vcd.specs.View.{plain_port, plain_probe, probe_in, ArePlaces}
use Rattle.rr_vcd.proofs.probes.probes_of.Given as goal

abbrev pub invariant-loop-port : goal.invariant-loop-port
invariant-loop-port l = ((d : Declared) → ArePlaces d.variables l.places → map plain_probe l.probes.items ≡ map (probe_in d l.scope) (map plain_port (take l.port-index l.ports)))
    × All (λ x. x.width ≤ 128) l.probes.items
