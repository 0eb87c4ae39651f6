use Rattle.std.proofs.Common.{◌≡◌, ◌||◌, length}
use Rattle.rr_expr.specs.Scopes.{env_of}
use Rattle.rr_expr.specs.declared.types.Bit.{Bit}
use Rattle.rr_named_bits.specs.Lists.{reaches}
use Rattle.rr_writers.proofs.Reaching.{first_words}
use Rattle.rr_meaning.proofs.registers.mark_all.Given as goal

abbrev pub invariant-loop-word : goal.invariant-loop-word
invariant-loop-word l = record {
  env : (b : Bit) → env_of l.masks.items b ≡ (reaches (first_words l.reach l.word) b || env_of l.fn.masks.items b);
  count : length l.masks.items ≡ length l.fn.masks.items;
}
