-- A table of borrowed texts, as a list of names with numbers.
use Rattle.std.proofs.Common.{◌≡◌, ◌∙◌, sym, ℕ, Bool, true, false, cond, List, [], ◌∷◌, ◌++◌, map, Option, Some, None, refl, ap, is_some, rules}
use Rattle.std.specs.Str.{bytes_eq}
use Rattle.std.proofs.lemmas.Slice.Eq.{bytes_eq-Decides}
use Rattle.std.specs.Map.{lookup as looked_up}
use Rattle.indexmap.specs.IndexMap.{insert_entry}
use denote.Ref.{Bor}
use Rattle.rr_trace.specs.Names.{Text, number_of}

-- an entry, with its key as its bytes
abbrev pub named : Bor (List ℕ) × ℕ → List ℕ × ℕ
named e = (e.0.now, e.1)

pub same_number : (name : Text) (es : List (Bor (List ℕ) × ℕ)) → number_of name (map named es) ≡ looked_up (λ k. bytes_eq name k.now) es
unfolding number_of
same_number name [] = refl
same_number name (e ∷ es) = ap (λ rest. cond (bytes_eq name e.0.now) (Some e.1) rest) (same_number name es)

-- a name that is not there goes last
pub added_last : (key : Bor (List ℕ)) (x : ℕ) (es : List (Bor (List ℕ) × ℕ)) → looked_up (λ k. bytes_eq key.now k.now) es ≡ None
    → map named (insert_entry (λ a b. bytes_eq a.now b.now) es key x) ≡ map named es ++ (key.now, x) ∷ []
added_last key x [] none = refl
added_last key x (e ∷ es) none = go (bytes_eq key.now e.0.now) refl (added_last key x es)
  where
    go : (b : Bool) → bytes_eq key.now e.0.now ≡ b
        → (looked_up (λ k. bytes_eq key.now k.now) es ≡ None → map named (insert_entry (λ a c. bytes_eq a.now c.now) es key x) ≡ map named es ++ (key.now, x) ∷ [])
        → map named (insert_entry (λ a c. bytes_eq a.now c.now) (e ∷ es) key x) ≡ map named (e ∷ es) ++ (key.now, x) ∷ []
    go true h rec = let no : Some e.1 ≡ None = rw h at none in cc
    go false h rec = rw h (ap (λ rest. named e ∷ rest) (rec (rw h at none)))

pub none_of : {X : Type 0} (o : Option X) → is_some o ≡ false → o ≡ None
none_of None e = refl
none_of (Some x) e = cc

unfoldable pub or_else : Option ℕ → Option ℕ → Option ℕ
or_else None o = o
or_else (Some x) o = Some x

pub push : (t name : Text) (n : ℕ) (es : List (Text × ℕ)) → number_of t (es ++ (name, n) ∷ []) ≡ or_else (number_of t es) (cond (bytes_eq t name) (Some n) None)
unfolding number_of or_else
push t name n [] = refl
push t name n (e ∷ es) = go (bytes_eq t e.0) (push t name n es)
  where
    go : (b : Bool) → number_of t (es ++ (name, n) ∷ []) ≡ or_else (number_of t es) (cond (bytes_eq t name) (Some n) None)
        → cond b (Some e.1) (number_of t (es ++ (name, n) ∷ [])) ≡ or_else (cond b (Some e.1) (number_of t es)) (cond (bytes_eq t name) (Some n) None)
    go true h = refl
    go false h = h

pub or_none : (o : Option ℕ) → or_else o None ≡ o
unfolding or_else
or_none None = refl
or_none (Some x) = refl

or_some : (o p : Option ℕ) → is_some o ≡ true → or_else o p ≡ o
unfolding or_else
or_some None p e = cc
or_some (Some x) p e = refl

-- a name that is there keeps its number
pub stays : (name : Text) (n : ℕ) (es : List (Text × ℕ)) → is_some (number_of name es) ≡ true → (t : Text) → number_of t es ≡ number_of t (es ++ (name, n) ∷ [])
stays name n es there t = go (bytes_eq t name) refl
  where
    go : (b : Bool) → bytes_eq t name ≡ b → number_of t es ≡ number_of t (es ++ (name, n) ∷ [])
    go true h = let e : t ≡ name = search (rules, bytes_eq-Decides, h) in sym (push t name n es ∙ or_some (number_of t es) _ (rw e there))
    go false h = sym (push t name n es ∙ (ap (λ b. or_else (number_of t es) (cond b (Some n) None)) h ∙ or_none (number_of t es)))
