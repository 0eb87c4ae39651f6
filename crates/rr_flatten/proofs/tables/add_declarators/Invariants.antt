use Rattle.std.proofs.Common.{◌≡◌, map, drop, fold}
use Rattle.rr_syntax.specs.View.{plain_declarator, texts}
use Rattle.rr_flatten.specs.Tables.{add_declarator_name}
use Rattle.rr_flatten.proofs.tables.add_declarators.Given as goal

abbrev pub invariant-loop-declarator : goal.invariant-loop-declarator
invariant-loop-declarator l = fold add_declarator_name (texts l.names.items) (map plain_declarator (drop l.declarator-index l.list)) ≡ fold add_declarator_name (texts l.fn.names.items) (map plain_declarator l.list)
