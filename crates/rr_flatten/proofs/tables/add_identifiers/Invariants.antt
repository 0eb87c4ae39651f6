use Rattle.std.proofs.Common.{◌≡◌, map, drop, fold}
use Rattle.rr_syntax.specs.View.{plain_identifier, texts}
use Rattle.rr_flatten.specs.Tables.{add_port_name}
use Rattle.rr_flatten.proofs.tables.add_identifiers.Given as goal

abbrev pub invariant-loop-named : goal.invariant-loop-named
invariant-loop-named l = fold add_port_name (texts l.names.items) (map plain_identifier (drop l.named-index l.list)) ≡ fold add_port_name (texts l.fn.names.items) (map plain_identifier l.list)
