-- The tables of operators past their ends.
use Rattle.std.proofs.Common.{◌≡◌, ℕ, ◌≤◌, ap, false, nat_eq}
use Rattle.std.proofs.lemmas.List.{get_or_past}
use Rattle.rr_syntax.specs.Expressions.{infix_level, is_prefix, levels, prefixes}

pub infix_past : (m : ℕ) → 45 ≤ m → infix_level m ≡ 0
unfolding infix_level
infix_past m h = get_or_past levels m 0 h

pub prefix_past : (m : ℕ) → 45 ≤ m → is_prefix m ≡ false
unfolding is_prefix
prefix_past m h = ap (λ (k : ℕ). nat_eq k 1) (get_or_past prefixes m 0 h)
