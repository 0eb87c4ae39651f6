use Rattle.std.proofs.Common.{◌≡◌, map, drop, fold, All}
use Rattle.rr_syntax.specs.View.{plain_port}
use Rattle.rr_declarations.specs.Heads.{with_ports}
use Rattle.rr_declarations.specs.Sound.{IsDeclared}
use Rattle.rr_declarations.specs.View.{plain_declarations, plain_list}
use Rattle.rr_declarations.proofs.head.add_groups.Given as goal

abbrev pub invariant-loop-group : goal.invariant-loop-group
invariant-loop-group l = record {
  value : fold (with_ports (plain_declarations l.declared)) (plain_list l.order.items) (map plain_port (drop l.group-index l.groups)) ≡ fold (with_ports (plain_declarations l.declared)) (plain_list l.fn.order.items) (map plain_port l.groups);
  sound : All (IsDeclared l.declared.instance) l.fn.order.items → All (IsDeclared l.declared.instance) l.order.items;
}
