-- Equal signals.
use Rattle.std.proofs.Common.{◌≡◌, ap, ℕ, ◌<◌, true, List, length, set, Option, None, Some, unwrap_or}
use Rattle.std.proofs.lemmas.Bool.{eqb-true}
use Rattle.std.proofs.lemmas.List.{get_or-set_same, get_or-set_other}
use Rattle.rr_text_names.specs.Names.{entry, is_the}

pub some_same : (a b : ℕ) → Some a ≡ Some b → a ≡ b
some_same a b h = ap (λ o. unwrap_or o 0) h

pub is_the_yes : (id : ℕ) (o : Option ℕ) → is_the id o ≡ true → o ≡ Some id
is_the_yes id None h = cc
is_the_yes id (Some c) h = ap Some (eqb-true c id h)

-- an entry after it was put

pub entry_same : {X : Type 0} (t : List (Option X)) (i : ℕ) (o : Option X) → i < length t → entry (set t i o) i ≡ o
entry_same t i o l = get_or-set_same t i o None l

pub entry_other : {X : Type 0} (t : List (Option X)) (i j : ℕ) (o : Option X) → (j ≡ i → ⊥) → entry (set t i o) j ≡ entry t j
entry_other t i j o n = get_or-set_other t i j o None n
