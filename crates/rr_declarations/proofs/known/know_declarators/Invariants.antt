use Rattle.std.proofs.Common.{◌≡◌, map, drop, fold}
use Rattle.rr_syntax.specs.View.{plain_declarator}
use Rattle.rr_declarations.specs.Declarations.{know_declarator}
use Rattle.rr_declarations.proofs.known.know_declarators.Given as goal

abbrev pub invariant-loop-declarator : goal.invariant-loop-declarator
invariant-loop-declarator l = fold know_declarator l.names (map plain_declarator (drop l.declarator-index l.list)) ≡ fold know_declarator l.fn.names (map plain_declarator l.list)
