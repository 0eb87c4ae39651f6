use Rattle.std.proofs.Common.{◌≡◌, ◌&&◌, ℕ, nat_eq, nat_lt, take}
use Rattle.std.specs.List.{list_any}
use Rattle.indexmap.specs.IndexMap.{get}
use Rattle.rr_lint_names.specs.Latched.{is_below}
use Rattle.rr_lint_names.proofs.lows.lowest.Given as goal

abbrev pub invariant-loop-bit : goal.invariant-loop-bit
invariant-loop-bit l = record { done : (id width : ℕ) → is_below width (get nat_eq l.lows id) ≡ list_any (λ b. nat_eq id b.signal && nat_lt b.place width) (take l.bit-index l.bits) }
