use Rattle.std.proofs.Common.{◌≡◌, map, drop}
use Rattle.rr_flat.specs.Faults.{each}
use Rattle.rr_syntax.specs.View.{plain_port}
use Rattle.rr_declarations.specs.Declarations.{declare_ports}
use Rattle.rr_declarations.specs.View.{plain_declarations}
use Rattle.rr_declarations.proofs.declare.Declarations.declare_groups.Given as goal

abbrev pub invariant-loop-group : goal.invariant-loop-group
invariant-loop-group l = record { walked : each (declare_ports l.brackets l.known) (map plain_port (drop l.group-index l.groups)) (plain_declarations l.self) ≡ each (declare_ports l.brackets l.known) (map plain_port l.groups) (plain_declarations l.fn.self); same : l.self.instance ≡ l.fn.self.instance }
