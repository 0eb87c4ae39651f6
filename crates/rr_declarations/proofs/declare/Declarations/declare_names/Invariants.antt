use Rattle.std.proofs.Common.{◌≡◌, map, drop}
use Rattle.rr_flat.specs.Faults.{each}
use Rattle.rr_syntax.specs.View.{plain_declarator}
use Rattle.rr_declarations.specs.Declarations.{declare}
use Rattle.rr_declarations.specs.View.{plain_declarations}
use Rattle.rr_declarations.proofs.declare.Declarations.declare_names.Given as goal

abbrev pub invariant-loop-name : goal.invariant-loop-name
invariant-loop-name l = record { walked : each (declare l.brackets l.known l.one) (map plain_declarator (drop l.name-index l.names)) (plain_declarations l.self) ≡ each (declare l.brackets l.known l.one) (map plain_declarator l.names) (plain_declarations l.fn.self); same : l.self.instance ≡ l.fn.self.instance }
