use Rattle.std.proofs.Common.{◌≡◌, ℕ, map, drop, fold, All}
use Rattle.rr_declarations.specs.Heads.{with_inner}
use Rattle.rr_declarations.specs.Sound.{IsDeclared}
use Rattle.rr_declarations.specs.View.{plain_declared, plain_list}
use Rattle.rr_declarations.proofs.head.add_inners.Given as goal

abbrev pub invariant-loop-declared : goal.invariant-loop-declared
invariant-loop-declared l = record {
  value : fold with_inner (plain_list l.order.items) (map plain_declared (drop l.declared-index l.list)) ≡ fold with_inner (plain_list l.fn.order.items) (map plain_declared l.list);
  sound : (i : ℕ) → All (IsDeclared i) l.list → All (IsDeclared i) l.fn.order.items → All (IsDeclared i) l.order.items;
}
