-- The value that follows a turn.
use Rattle.std.proofs.Common.{◌≡◌, ◌∙◌, sym, ap, ℕ, Bool, true, false, Option, None, Some, Result, Ok, Err, refl}
use Rattle.rr_syntax.specs.Tree.{LoopHead}
use Rattle.rr_expr.specs.Scopes.{Names}
use Rattle.rr_flat.specs.declared.fault.FlatFault.{FlatFault}
use Rattle.rr_loop_names.specs.Turns.{Turn}
use Rattle.rr_unfold.specs.Unfold.{map_ok, loop_truth, loop_value, value_in, goes_on, next_value, following}

module _ (s : Names) (inner : Turn) (h : LoopHead) where
  pub follows-none : map_ok loop_truth (value_in s inner h.test) ≡ Ok false → following s inner h ≡ Ok None
  unfolding following goes_on
  follows-none e = rw e refl

  pub follows-refused : (f : FlatFault) → map_ok loop_truth (value_in s inner h.test) ≡ Err f → following s inner h ≡ Err f
  unfolding following goes_on
  follows-refused f e = rw e refl

  pub follows-some : (v : ℕ) → map_ok loop_truth (value_in s inner h.test) ≡ Ok true → map_ok loop_value (value_in s inner h.step) ≡ Ok v → following s inner h ≡ Ok (Some v)
  unfolding following goes_on next_value
  follows-some v e n = rw (e, n) refl

  pub follows-stuck : (f : FlatFault) → map_ok loop_truth (value_in s inner h.test) ≡ Ok true → map_ok loop_value (value_in s inner h.step) ≡ Err f → following s inner h ≡ Err f
  unfolding following goes_on next_value
  follows-stuck f e n = rw (e, n) refl

pub ruleset followings = (follows-none, follows-refused, follows-some, follows-stuck)
