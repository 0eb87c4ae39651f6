-- The 32 bits of an integer.
use Rattle.std.proofs.Common.{◌≡◌, ◌∙◌, ℕ, Bool, List, length, ◌<◌, ◌^◌, if◌then◌else◌, Option, None, Some, true, false, Result, Ok, Err, ap, subst, arith}
use Rattle.rr_bits.specs.Words.{number, extend}
use Rattle.rr_bits.proofs.Numbers.{number-lt}
use Rattle.rr_bits.proofs.Places.{length_tabulate}
use Rattle.rr_syntax.specs.Tree.{Tree, LoopHead}
use Rattle.rr_expr.specs.Scopes.{Names}
use Rattle.rr_flat.specs.declared.fault.FlatFault.{FlatFault}
use Rattle.rr_flat.specs.Faults.{and_then}
use Rattle.rr_loop_names.specs.Turns.{Turn}
use Rattle.rr_unfold.specs.Unfold.{loop_value, map_ok, ok_or, value_in, first_value, goes_on, next_value, following}

pub integer_fits : (signed : Bool) (bits : List Bool) → number (extend 32 signed bits) < 2 ^ 32
integer_fits signed bits = subst (λ n. number (extend 32 signed bits) < 2 ^ n) (length_tabulate 32 _) (number-lt (extend 32 signed bits))

-- the same of a word that is known by an equation
pub word_fits : (signed : Bool) (bits word : List Bool) (n : ℕ) → word ≡ extend 32 signed bits → n ≡ number word → n < 4294967296
word_fits signed bits word n e h = let k : n ≡ number (extend 32 signed bits) = h ∙ ap number e in let f = integer_fits signed bits in omega (arith, k, f)

small_or : (r : Result (List Bool × Bool) FlatFault) → ok_or (map_ok loop_value r) 0 < 4294967296
small_or (Ok v) = let f = integer_fits v.1 v.0 in omega (arith, f)
small_or (Err e) = omega arith

pub small_first : (s : Names) (turn : Turn) (h : LoopHead) → ok_or (first_value s turn h) 0 < 4294967296
unfolding first_value
small_first s turn h = small_or (value_in s turn h.start)

-- what follows a turn

small_next : (r : Result (List Bool × Bool) FlatFault) (next : ℕ) → map_ok loop_value r ≡ Ok next → next < 4294967296
small_next (Ok v) next e = let k : next ≡ loop_value v = cc in let f = integer_fits v.1 v.0 in omega (arith, k, f)
small_next (Err x) next e = absurd (cc)

small_some : (r : Result ℕ FlatFault) (next : ℕ) → ok_or (map_ok (λ n. Some n) r) None ≡ Some next → r ≡ Ok next
small_some (Ok v) next e = let k : v ≡ next = cc in ap (λ n. Ok n) k
small_some (Err x) next e = absurd (cc)

small_then : (test : Result Bool FlatFault) (r : Result ℕ FlatFault) (next : ℕ) → ok_or (and_then test (λ more. if more then map_ok (λ n. Some n) r else Ok None)) None ≡ Some next → r ≡ Ok next
small_then (Ok true) r next e = small_some r next e
small_then (Ok false) r next e = absurd (cc)
small_then (Err x) r next e = absurd (cc)

pub small_follower : (s : Names) (inner : Turn) (h : LoopHead) (next : ℕ) → ok_or (following s inner h) None ≡ Some next → next < 4294967296
unfolding following next_value
small_follower s inner h next e = small_next (value_in s inner h.step) next (small_then (goes_on s inner h) (map_ok loop_value (value_in s inner h.step)) next e)
