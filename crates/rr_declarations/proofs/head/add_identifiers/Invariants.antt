use Rattle.std.proofs.Common.{◌≡◌, map, drop, fold, All}
use Rattle.rr_syntax.specs.View.{plain_identifier}
use Rattle.rr_declarations.specs.Heads.{with_identifier}
use Rattle.rr_declarations.specs.Sound.{IsDeclared}
use Rattle.rr_declarations.specs.View.{plain_declarations, plain_list}
use Rattle.rr_declarations.proofs.head.add_identifiers.Given as goal

abbrev pub invariant-loop-named : goal.invariant-loop-named
invariant-loop-named l = record {
  value : fold (with_identifier (plain_declarations l.declared)) (plain_list l.order.items) (map plain_identifier (drop l.named-index l.names)) ≡ fold (with_identifier (plain_declarations l.declared)) (plain_list l.fn.order.items) (map plain_identifier l.names);
  sound : All (IsDeclared l.declared.instance) l.fn.order.items → All (IsDeclared l.declared.instance) l.order.items;
}
