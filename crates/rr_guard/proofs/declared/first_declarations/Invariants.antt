use Rattle.std.proofs.Common.{◌≡◌, map, drop, fold}
use Rattle.rr_syntax.specs.View.{plain_identifier}
use Rattle.rr_guard.specs.Names.{texts_of, with_first, firsts}
use Rattle.rr_guard.proofs.declared.first_declarations.Given as goal

abbrev pub invariant-loop-name : goal.invariant-loop-name
invariant-loop-name l = record {
  same : l.seen ≡ texts_of (map plain_identifier l.list.items);
  folded : fold with_first (map plain_identifier l.list.items) (map plain_identifier (drop l.name-index l.names)) ≡ firsts (map plain_identifier l.names);
}
