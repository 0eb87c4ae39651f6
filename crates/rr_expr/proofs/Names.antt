-- A table of borrowed texts, as a list of names.
use Rattle.std.proofs.Common.{◌≡◌, ℕ, Bool, true, false, cond, List, [], ◌∷◌, ◌++◌, map, Option, Some, None, refl, ap, is_some}
use Rattle.std.specs.Str.{bytes_eq}
use Rattle.std.specs.Map.{lookup as looked_up}
use Rattle.indexmap.specs.IndexMap.{insert_entry}
use denote.Ref.{Bor}
use Rattle.rr_expr.specs.Scopes.{lookup, meant, or_instance}
use Rattle.rr_expr.specs.declared.types.Entity.{Entity}

-- an entry, with its key as the bytes of the text
abbrev pub named : Bor (List ℕ) × Entity → List ℕ × Entity
named e = (e.0.now, e.1)

pub same_lookup : (name : List ℕ) (es : List (Bor (List ℕ) × Entity)) → lookup name (map named es) ≡ looked_up (λ k. bytes_eq name k.now) es
unfolding lookup
same_lookup name [] = refl
same_lookup name (e ∷ es) = ap (λ rest. cond (bytes_eq name e.0.now) (Some e.1) rest) (same_lookup name es)

-- a name that is not there goes last
pub added_last : (key : Bor (List ℕ)) (x : Entity) (es : List (Bor (List ℕ) × Entity)) → looked_up (λ k. bytes_eq key.now k.now) es ≡ None
    → map named (insert_entry (λ a b. bytes_eq a.now b.now) es key x) ≡ map named es ++ (key.now, x) ∷ []
added_last key x [] none = refl
added_last key x (e ∷ es) none = go (bytes_eq key.now e.0.now) refl (added_last key x es)
  where
    go : (b : Bool) → bytes_eq key.now e.0.now ≡ b
        → (looked_up (λ k. bytes_eq key.now k.now) es ≡ None → map named (insert_entry (λ a c. bytes_eq a.now c.now) es key x) ≡ map named es ++ (key.now, x) ∷ [])
        → map named (insert_entry (λ a c. bytes_eq a.now c.now) (e ∷ es) key x) ≡ map named (e ∷ es) ++ (key.now, x) ∷ []
    go true h rec = let no : Some e.1 ≡ None = rw h at none in cc
    go false h rec = rw h (ap (λ rest. named e ∷ rest) (rec (rw h at none)))

pub none_of : {X : Type 0} (o : Option X) → is_some o ≡ false → o ≡ None
none_of None e = refl
none_of (Some x) e = cc

pub meant_is : (s : List (List ℕ × Entity)) (name : List ℕ) → or_instance (lookup name s) ≡ meant s name
unfolding meant
meant_is s name = refl
