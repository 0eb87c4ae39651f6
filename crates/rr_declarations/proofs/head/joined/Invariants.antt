use Rattle.std.proofs.Common.{◌≡◌, ℕ, ◌++◌, map, drop, All}
use Rattle.rr_flat.specs.Sound.{IsOwn}
use Rattle.rr_flat.specs.View.{plain_signal}
use Rattle.rr_declarations.specs.Heads.{joined}
use Rattle.rr_declarations.specs.Sound.{IsDeclared}
use Rattle.rr_declarations.specs.View.{plain_list}
use Rattle.rr_declarations.proofs.head.joined.Given as goal

abbrev pub invariant-loop-declared : goal.invariant-loop-declared
invariant-loop-declared l = record {
  value : map plain_signal l.signals.items ++ joined (plain_list (drop l.declared-index l.list)) ≡ joined (plain_list l.list);
  sound : (i : ℕ) → All (IsDeclared i) l.list → All (IsOwn i) l.signals.items;
}
