use Rattle.std.proofs.Common.{◌≡◌, map, drop, fold, All}
use Rattle.rr_syntax.specs.View.{plain_declarator}
use Rattle.rr_declarations.specs.Heads.{with_declarator}
use Rattle.rr_declarations.specs.Sound.{IsDeclared}
use Rattle.rr_declarations.specs.View.{plain_declarations, plain_list}
use Rattle.rr_declarations.proofs.head.add_declarators.Given as goal

abbrev pub invariant-loop-declarator : goal.invariant-loop-declarator
invariant-loop-declarator l = record {
  value : fold (with_declarator (plain_declarations l.declared)) (plain_list l.order.items) (map plain_declarator (drop l.declarator-index l.names)) ≡ fold (with_declarator (plain_declarations l.declared)) (plain_list l.fn.order.items) (map plain_declarator l.names);
  sound : All (IsDeclared l.declared.instance) l.fn.order.items → All (IsDeclared l.declared.instance) l.order.items;
}
