-- Walks over lists whose elements change, and lists that grow.
use Rattle.std.proofs.Common.{◌≡◌, ◌∙◌, sym, ap, List, [], ◌∷◌, ◌++◌, map, Result, Ok, Err, refl, append_assoc}
use Rattle.std.proofs.lemmas.List.{append-nil}
use Rattle.rr_flat.specs.Faults.{and_then, each}
use Rattle.rr_flat.specs.declared.fault.FlatFault.{FlatFault}

-- one step after another

pub and_then_same : {A B : Type 0} (r q : Result A FlatFault) (f g : A → Result B FlatFault) → r ≡ q → ((a : A) → f a ≡ g a) → and_then r f ≡ and_then q g
and_then_same (Ok a) q f g e h = rw (← e) (h a)
and_then_same (Err x) q f g e h = rw (← e) refl

-- the answer of the first, where both answer
pub record Stepped {A B : Type 0} (r : Result A FlatFault) (f : A → Result B FlatFault) (b : B) : Type 0 where
  pub mid : A
  pub first : r ≡ Ok mid
  pub next : f mid ≡ Ok b

pub stepped : {A B : Type 0} (r : Result A FlatFault) (f : A → Result B FlatFault) (b : B) → and_then r f ≡ Ok b → Stepped r f b
stepped (Ok a) f b e = record { mid = a; first = refl; next = e }
stepped (Err x) f b e = cc

pub and_then_ok : {A B : Type 0} (r : Result A FlatFault) (f : A → Result B FlatFault) (a : A) → r ≡ Ok a → and_then r f ≡ f a
and_then_ok r f a e = rw e refl

-- steps that see nothing of the change

pub each_mapped : {X S : Type 0} (f : X → X) (step : X → S → Result S FlatFault) → ((x : X) (s : S) → step (f x) s ≡ step x s) → (xs : List X) (s : S) → each step (map f xs) s ≡ each step xs s
unfolding each
each_mapped f step h [] s = refl
each_mapped f step h (x ∷ xs) s = and_then_same (step (f x) s) (step x s) (each step (map f xs)) (each step xs) (h x s) (each_mapped f step h xs)

pub each_same : {X S : Type 0} (step other : X → S → Result S FlatFault) → ((x : X) (s : S) → step x s ≡ other x s) → (xs : List X) (s : S) → each step xs s ≡ each other xs s
unfolding each
each_same step other h [] s = refl
each_same step other h (x ∷ xs) s = and_then_same (step x s) (other x s) (each step xs) (each other xs) (h x s) (each_same step other h xs)

-- a list that begins with another

abbrev pub Begins : {X : Type 0} → List X → List X → Type 0
Begins {X} xs ys = (zs : List X) × (ys ≡ xs ++ zs)

pub begins_here : {X : Type 0} (xs : List X) → Begins xs xs
begins_here xs = ([], sym (append-nil xs))

pub begins_with : {X : Type 0} (xs zs : List X) → Begins xs (xs ++ zs)
begins_with xs zs = (zs, refl)

pub begins-trans : {X : Type 0} (xs ys zs : List X) → Begins xs ys → Begins ys zs → Begins xs zs
begins-trans xs ys zs h k = (h.0 ++ k.0, k.1 ∙ (ap (λ l. l ++ k.0) h.1 ∙ append_assoc xs h.0 k.0))
