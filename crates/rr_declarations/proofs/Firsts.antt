-- The first of several faults, and the bounds of ranges.
use Rattle.std.proofs.Common.{◌≡◌, ℕ, ◌^◌, ◌<◌, ◌≤◌, suc, ◌-◌, true, false, Bool, List, [], ◌∷◌, length, Option, Some, None, Result, Ok, Err, refl, fold, nat_lt, arith, ◌&&◌, pos, negsuc, ◌-ℤ◌}
use Rattle.std.proofs.lemmas.Bool.Decides.{nat_tests}
use Rattle.std.proofs.lemmas.Int.{ints}
use Rattle.rr_bits.specs.Words.{number, top, reading}
use Rattle.rr_bits.proofs.Numbers.{number-lt}
use Rattle.rr_syntax.specs.Tree.{Tree}
use Rattle.rr_expr.specs.declared.types.ExprFault.{ExprFault}
use Rattle.rr_expr.specs.Faults.{fault}
use Rattle.rr_expr.specs.Scopes.{Names}
use Rattle.rr_flat.specs.Faults.{sooner, before, fault_if, faults_in, either, of_expression, answer_of}
use Rattle.rr_starts.specs.Starts.{start, start_of, constant_faults}
use Rattle.rr_declarations.specs.Values.{bound_of}
use Rattle.rr_flat.specs.declared.fault.FlatFault.{FlatFault}
use Rattle.rr_flat.specs.declared.fault.FlatFault.TheVariants.{TooWide}

-- a width of more than 128 bits is the first fault where there is no other
pub wide_first : (at w : ℕ) → 128 < w → fold sooner None (fault_if (nat_lt 128 w) (TooWide at w)) ≡ Some (TooWide at w)
unfolding sooner
wide_first at w lt = let b : nat_lt 128 w ≡ true = grind (arith, nat_tests) in rw b refl

-- an answer is the first of its own fault where there is no other
pub either_none : {A : Type 0} (found : Option FlatFault) (own : Result A FlatFault) → found ≡ None → own ≡ either (fold sooner found (faults_in own)) own
unfolding sooner
either_none found (Ok a) e = rw e refl
either_none found (Err f) e = rw e refl

-- a fault that was found stays found
stays : (g : FlatFault) (fs : List FlatFault) → fold sooner (Some g) fs ≡ None → ⊥
unfolding sooner
stays g [] e = cc
stays g (f ∷ fs) e = go (before f g) refl (stays f fs) (stays g fs)
  where
    go : (b : Bool) → before f g ≡ b → (fold sooner (Some f) fs ≡ None → ⊥) → (fold sooner (Some g) fs ≡ None → ⊥) → ⊥
    go true h recf recg = recf (rw h at e)
    go false h recf recg = recg (rw h at e)

pub none_before : (found : Option FlatFault) (fs : List FlatFault) → fold sooner found fs ≡ None → found ≡ None
none_before None fs e = refl
none_before (Some g) fs e = absurd (stays g fs e)

none_first : (fs : List FlatFault) → fold sooner None fs ≡ None → fs ≡ []
unfolding sooner
none_first [] e = refl
none_first (f ∷ fs) e = absurd (stays f fs e)

pub none_here : (found : Option FlatFault) (fs : List FlatFault) → fold sooner found fs ≡ None → fs ≡ []
none_here None fs e = none_first fs e
none_here (Some g) fs e = absurd (stays g fs e)

-- a range of no more than 128 bits
pub narrow : (found : Option FlatFault) (at w : ℕ) → fold sooner found (fault_if (nat_lt 128 w) (TooWide at w)) ≡ None → w ≤ 128
narrow found at w e = go (nat_lt 128 w) refl (none_here found (fault_if (nat_lt 128 w) (TooWide at w)) e)
  where
    go : (b : Bool) → nat_lt 128 w ≡ b → fault_if b (TooWide at w) ≡ [] → w ≤ 128
    go true q n = cc
    go false q n = grind (arith, nat_tests)

some_none : (f : FlatFault) → f ∷ [] ≡ [] → ⊥
some_none f e = cc

-- a constant without a fault has a number
pub constant_clear : (s : Names) (w : ℕ) (t : Tree) → constant_faults s t ≡ [] → start s w t ≡ Ok (start_of s w t)
unfolding start
constant_clear s w t e = go (fault s t true) refl
  where
    go : (f : Option ExprFault) → fault s t true ≡ f → answer_of (fault s t true) (start_of s w t) ≡ Ok (start_of s w t)
    go None q = rw q refl
    go (Some f) q = absurd (some_none (of_expression f) (rw q at e))

below_zero : (n m : ℕ) → n < m → pos n -ℤ pos m ≡ negsuc (m - suc n)
below_zero n m h = grind (arith, ints)

-- a negative number is no bound
pub negative_bound : (signed : Bool) (xs : List Bool) → (signed && top xs) ≡ true → bound_of (reading signed xs) ≡ None
negative_bound signed xs h = rw (h, below_zero (number xs) (2 ^ length xs) (number-lt xs)) refl
