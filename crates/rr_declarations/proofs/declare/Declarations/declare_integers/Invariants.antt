use Rattle.std.proofs.Common.{◌≡◌, map, drop}
use Rattle.rr_flat.specs.Faults.{each}
use Rattle.rr_syntax.specs.View.{plain_identifier}
use Rattle.rr_declarations.specs.Declarations.{declare_integer}
use Rattle.rr_declarations.specs.View.{plain_declarations}
use Rattle.rr_declarations.proofs.declare.Declarations.declare_integers.Given as goal

abbrev pub invariant-loop-named : goal.invariant-loop-named
invariant-loop-named l = record { walked : each (declare_integer l.brackets l.known) (map plain_identifier (drop l.named-index l.names)) (plain_declarations l.self) ≡ each (declare_integer l.brackets l.known) (map plain_identifier l.names) (plain_declarations l.fn.self); same : l.self.instance ≡ l.fn.self.instance }
