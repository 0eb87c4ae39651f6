-- What an answer says of the steps before it.
use Rattle.std.proofs.Common.{◌≡◌, Bool, true, false, List, [], ◌∷◌, ◌++◌, Option, Some, None, Ok, refl}
use Rattle.rr_flat.specs.declared.fault.FlatFault.{FlatFault}
use Rattle.rr_flat.specs.Faults.{fault_or, first_of, first_fault_or, fault_if}
use Rattle.rr_declarations.proofs.Firsts.{none_here}
use Rattle.rr_flatten.proofs.HeadOf.{ok_is, not_ok}

pub nil_left : {X : Type 0} (xs ys : List X) → xs ++ ys ≡ [] → xs ≡ []
nil_left [] ys e = refl
nil_left (x ∷ xs) ys e = absurd (cc)

pub nil_right : {X : Type 0} (xs ys : List X) → xs ++ ys ≡ [] → ys ≡ []
nil_right [] ys e = e
nil_right (x ∷ xs) ys e = absurd (cc)

pub not_if : (b : Bool) (f : FlatFault) → fault_if b f ≡ [] → b ≡ false
not_if true f h = absurd (cc)
not_if false f h = refl

-- no fault, and what was given
pub settled : {A : Type 0} (fs : List FlatFault) (a b : A) → first_fault_or fs a ≡ Ok b → (fs ≡ []) × (a ≡ b)
settled fs a b h = by (first_of fs) refl h
  where
    by : (o : Option FlatFault) → first_of fs ≡ o → fault_or o a ≡ Ok b → (fs ≡ []) × (a ≡ b)
    by None q k = (none_here None fs q, ok_is a b k)
    by (Some f) q k = absurd (not_ok f b k)
