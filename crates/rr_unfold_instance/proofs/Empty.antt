-- Lists of faults that have no element.
use Rattle.std.proofs.Common.{◌≡◌, Bool, true, false, not, List, [], ◌∷◌, ◌++◌, refl}
use Rattle.rr_flat.specs.declared.fault.FlatFault.{FlatFault}
use Rattle.rr_flat.specs.Faults.{fault_if}

nil_parts : {X : Type 0} (xs ys : List X) → xs ++ ys ≡ [] → (xs ≡ []) × (ys ≡ [])
nil_parts [] ys e = (refl, e)
nil_parts (x ∷ xs) ys e = absurd (cc)

pub nil_left : {X : Type 0} (xs ys : List X) → xs ++ ys ≡ [] → xs ≡ []
nil_left xs ys e = (nil_parts xs ys e).0

pub nil_right : {X : Type 0} (xs ys : List X) → xs ++ ys ≡ [] → ys ≡ []
nil_right xs ys e = (nil_parts xs ys e).1

pub nil_both : {X : Type 0} (xs ys : List X) → xs ≡ [] → ys ≡ [] → xs ++ ys ≡ []
nil_both xs ys e h = rw (e, h) refl

-- a fault that is none tells of its test
pub unless_faulty : (b : Bool) (f : FlatFault) → fault_if (not b) f ≡ [] → b ≡ true
unless_faulty true f e = refl
unless_faulty false f e = absurd (cc)
