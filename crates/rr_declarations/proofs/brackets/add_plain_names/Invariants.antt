use Rattle.std.proofs.Common.{◌≡◌, map, drop}
use Rattle.rr_flat.specs.Faults.{each}
use Rattle.rr_syntax.specs.View.{plain_identifier}
use Rattle.rr_declarations.specs.Declarations.{add_plain_name}
use Rattle.rr_declarations.proofs.brackets.add_plain_names.Given as goal

abbrev pub invariant-loop-named : goal.invariant-loop-named
invariant-loop-named l = record { walked : each (add_plain_name l.directed) (map plain_identifier (drop l.named-index l.header)) l.names ≡ each (add_plain_name l.directed) (map plain_identifier l.header) l.fn.names }
