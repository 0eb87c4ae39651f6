-- A list of sites has few choice bits.
use Rattle.std.proofs.Common.{ℕ, ◌+◌, ◌*◌, ◌≤◌, ◌==◌, Bool, true, false, if◌then◌else◌, List, [], ◌∷◌, length, arith}
use Rattle.std.specs.List.{All}
use Rattle.std.proofs.lemmas.List.Elements.{All-head, All-tail}
use Rattle.rr_choice.specs.Choices.{total_bits, name_width, guard_width}
use Rattle.rr_choice.specs.Sites.{SiteKind, Site, Literal, Guard, Overwrite, value_width, HasWidth, IsSite, IsSiteList}
use Rattle.rr_instance_laws.specs.Laws.{BitsAreFew}

-- a site has at most 138 choice bits
few_for_names : (n : ℕ) → name_width n ≤ 6
few_for_names n = grind arith

few_for_guards : (k : SiteKind) → guard_width k ≤ 9
few_for_guards (Literal width signed) = omega arith
few_for_guards (Guard owner extent names) = by_count (length names == 0)
  where
    by_count : (b : Bool) → (if b then 0 else 3 + name_width (length names)) ≤ 9
    by_count true = omega arith
    by_count false = let n = few_for_names (length names) in omega (arith, n)
few_for_guards (Overwrite owner target width now names) = by_count (length names == 0)
  where
    by_count : (b : Bool) → (if b then 0 else 2 + name_width (length names)) ≤ 9
    by_count true = omega arith
    by_count false = let n = few_for_names (length names) in omega (arith, n)

few_for_value : (k : SiteKind) → HasWidth k → value_width k ≤ 128
few_for_value (Literal width signed) h = h.1
few_for_value (Guard owner extent names) h = omega arith
few_for_value (Overwrite owner target width now names) h = h.1

total_small : (ss : List Site) → All IsSite ss → total_bits ss ≤ 138 * length ss
unfolding total_bits
total_small [] h = omega arith
total_small (s ∷ ss) h =
    let v = few_for_value s.kind (All-head IsSite s ss h).width in
    let g = few_for_guards s.kind in
    let r = total_small ss (All-tail IsSite s ss h) in
    omega (arith, v, g, r)

pub bits_are_few : BitsAreFew
bits_are_few ss g = total_small ss g.each
