use Rattle.std.proofs.Common.{◌≡◌, ◌||◌, drop, length}
use Rattle.rr_expr.specs.Scopes.{env_of}
use Rattle.rr_expr.specs.declared.types.Bit.{Bit}
use Rattle.rr_named_bits.specs.Lists.{covered}
use Rattle.rr_meaning.proofs.registers.register_masks.Given as goal

abbrev pub invariant-loop-reach : goal.invariant-loop-reach
invariant-loop-reach l = record {
  env : (b : Bit) → (covered (drop l.reach-index l.reach-items) b || env_of l.masks.items b) ≡ covered l.reach-items b;
  count : length l.masks.items ≡ length l.fn.flat.signals;
}
