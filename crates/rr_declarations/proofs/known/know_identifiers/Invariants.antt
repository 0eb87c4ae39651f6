use Rattle.std.proofs.Common.{◌≡◌, map, drop, fold}
use Rattle.rr_syntax.specs.View.{plain_identifier}
use Rattle.rr_declarations.specs.Declarations.{know_identifier}
use Rattle.rr_declarations.proofs.known.know_identifiers.Given as goal

abbrev pub invariant-loop-named : goal.invariant-loop-named
invariant-loop-named l = fold know_identifier l.names (map plain_identifier (drop l.named-index l.list)) ≡ fold know_identifier l.fn.names (map plain_identifier l.list)
