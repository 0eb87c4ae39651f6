use Rattle.std.proofs.Common.{◌≡◌, map, drop, fold}
use Rattle.rr_syntax.specs.View.{plain_port, texts}
use Rattle.rr_flatten.specs.Tables.{add_port_names}
use Rattle.rr_flatten.proofs.tables.add_groups.Given as goal

abbrev pub invariant-loop-group : goal.invariant-loop-group
invariant-loop-group l = fold add_port_names (texts l.names.items) (map plain_port (drop l.group-index l.groups)) ≡ fold add_port_names (texts l.fn.names.items) (map plain_port l.groups)
