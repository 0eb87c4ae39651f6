use Rattle.std.proofs.Common.{◌≡◌, map, drop, fold}
use Rattle.rr_syntax.specs.View.{plain_port}
use Rattle.rr_declarations.specs.Declarations.{know_ports}
use Rattle.rr_declarations.proofs.known.know_groups.Given as goal

abbrev pub invariant-loop-group : goal.invariant-loop-group
invariant-loop-group l = fold know_ports l.names (map plain_port (drop l.group-index l.groups)) ≡ fold know_ports l.fn.names (map plain_port l.groups)
