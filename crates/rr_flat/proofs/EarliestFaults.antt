-- Among the turns of loops there is no fault exactly where none is found.
use Rattle.std.proofs.Common.{◌≡◌, Bool, true, false, List, [], ◌∷◌, Option, Some, None, fold, nat_lt, refl}
use Rattle.rr_flat.specs.declared.fault.FlatFault.{FlatFault}
use Rattle.rr_flat.specs.Faults.{earlier, earliest_of, token}

-- a fault that was found stays found
stays : (g : FlatFault) (fs : List FlatFault) → fold earlier (Some g) fs ≡ None → ⊥
unfolding earlier
stays g [] e = cc
stays g (f ∷ fs) e = go (nat_lt (token f) (token g)) refl (stays f fs) (stays g fs)
  where
    go : (b : Bool) → nat_lt (token f) (token g) ≡ b → (fold earlier (Some f) fs ≡ None → ⊥) → (fold earlier (Some g) fs ≡ None → ⊥) → ⊥
    go true h recf recg = recf (rw h at e)
    go false h recf recg = recg (rw h at e)

pub none_found : (found : Option FlatFault) (fs : List FlatFault) → fold earlier found fs ≡ None → found ≡ None
none_found None fs e = refl
none_found (Some g) fs e = absurd (stays g fs e)

none_first : (fs : List FlatFault) → fold earlier None fs ≡ None → fs ≡ []
unfolding earlier
none_first [] e = refl
none_first (f ∷ fs) e = absurd (stays f fs e)

pub none_left : (found : Option FlatFault) (fs : List FlatFault) → fold earlier found fs ≡ None → fs ≡ []
none_left None fs e = none_first fs e
none_left (Some g) fs e = absurd (stays g fs e)

pub none_earliest : (fs : List FlatFault) → earliest_of fs ≡ None → fs ≡ []
none_earliest fs e = none_first fs e
