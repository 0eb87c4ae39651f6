-- The hashes tell the reserved words apart, and the marks.
use Rattle.std.proofs.Common.{ℕ, zero, suc, ◌≡◌, ◌+◌, ◌≤◌, ◌<◌, List, [], ◌∷◌, length, get_or, Bool, true, false, ◌&&◌, ◌==◌, nat_lt, Option, Some, None, refl, ap, ◌∙◌, sym, arith, inl, inr, ◌⊎◌}
use Rattle.std.specs.Str.{bytes_eq}
use Rattle.std.specs.Cmp.Lexicographic.{same_text}
use Rattle.std.proofs.lemmas.Bool.{and_parts, and_from, cases_Bool, cases_lt, eqb-true, eq-eqb, le-ltb, lt-ltb, ltb-true}
use denote.Ref.{Bor}
use Rattle.std.proofs.lemmas.List.{length-map}
use Rattle.rr_lex.specs.Reading.{texts_of}
use Rattle.rr_syntax.specs.Words.{keywords, marks}
use Rattle.rr_lex.specs.Tokens.{more, place_of}
use Rattle.rr_lex.specs.Table.{placed, keyword_hash, keyword_slot, keyword_slots, mark_hash, mark_slot, mark_slots}
use Rattle.rr_lex.proofs.Marks.{more_found}

-- every number below a bound
unfoldable pub all_below : (ℕ → Bool) → ℕ → Bool
all_below p zero = true
all_below p (suc n) = p n && all_below p n

pub below_all : (p : ℕ → Bool) (n m : ℕ) → all_below p n ≡ true → m < n → p m ≡ true
unfolding all_below
below_all p zero m h l = absurd (omega arith)
below_all p (suc n) m h l = let k = and_parts (p n) (all_below p n) h in elim (cases_lt m n) [
  | inl i ↦ below_all p n m k.1 i
  | inr i ↦ let e : m ≡ n = omega arith in ap p e ∙ k.0
]

unfoldable pub is_place : ℕ → Option ℕ → Bool
is_place m None = false
is_place m (Some n) = n == m

pub place_is : (m : ℕ) (o : Option ℕ) → is_place m o ≡ true → o ≡ Some m
unfolding is_place
place_is m None h = absurd (cc)
place_is m (Some n) h = ap Some (eqb-true n m h)

later : (n m : ℕ) → more 1 (Some n) ≡ Some m → suc n ≡ m
unfolding more
later n m e = let q : 1 + n ≡ m = cc in omega arith

-- the text at the place that was found
pub place_at : (text : List ℕ) (ts : List (List ℕ)) (m : ℕ) → place_of text ts ≡ Some m → (m < length ts) × (get_or ts m [] ≡ text)
unfolding place_of
place_at text [] m e = absurd (cc)
place_at text (t ∷ ts) m e = elim (cases_Bool (bytes_eq t text)) [
  | inl h ↦ let q : Some 0 ≡ Some m = rw h at e in let z : 0 ≡ m = cc in rw (← z) (omega arith, same_text t text (sym h))
  | inr h ↦
      let q : more 1 (place_of text ts) ≡ Some m = rw h at e in
      let f = more_found (place_of text ts) m q in
      let i = place_at text ts f.0 f.1 in
      let z : suc f.0 ≡ m = later f.0 m (ap (more 1) (sym f.1) ∙ q) in
      rw (← z) (omega arith, i.1)
]

same_bytes : (t : List ℕ) → bytes_eq t t ≡ true
same_bytes [] = refl
same_bytes (b ∷ t) = and_from (b == b) (bytes_eq t t) (eq-eqb b b refl) (same_bytes t)

-- the hash of each text of a list gives its place, and it is the first there
good : (List ℕ → ℕ) → List (List ℕ) → ℕ → Bool
good h ts k = let t = get_or ts k [] in h t == k && is_place k (place_of t ts)

none_here : (h : List ℕ → ℕ) (ts : List (List ℕ)) (text : List ℕ) → all_below (good h ts) (length ts) ≡ true → place_of text ts ≡ None → placed (h text) text ts ≡ None
unfolding placed good
none_here h ts text g e = elim (cases_Bool (nat_lt (h text) (length ts) && bytes_eq (get_or ts (h text) []) text)) [
  | inr f ↦ rw f refl
  | inl f ↦
      let k = and_parts (nat_lt (h text) (length ts)) (bytes_eq (get_or ts (h text) []) text) f in
      let q : get_or ts (h text) [] ≡ text = same_text (get_or ts (h text) []) text (sym (k.1)) in
      let b = and_parts (h (get_or ts (h text) []) == h text) _ (below_all (good h ts) (length ts) (h text) g (ltb-true (h text) (length ts) k.0)) in
      let p : place_of text ts ≡ Some (h text) = ap (λ (l : List ℕ). place_of l ts) (sym q) ∙ place_is (h text) _ b.1 in
      let z : None ≡ Some (h text) = sym e ∙ p in absurd (cc)
]

some_here : (h : List ℕ → ℕ) (ts : List (List ℕ)) (text : List ℕ) (m : ℕ) → all_below (good h ts) (length ts) ≡ true → place_of text ts ≡ Some m → placed (h text) text ts ≡ Some m
unfolding placed good
some_here h ts text m g e =
    let a = place_at text ts m e in
    let b = and_parts (h (get_or ts m []) == m) _ (below_all (good h ts) (length ts) m g a.0) in
    let q : h text ≡ m = ap h (sym a.1) ∙ eqb-true (h (get_or ts m [])) m b.0 in
    rw (q, a.1, lt-ltb m (length ts) a.0, same_bytes text) refl

some_or_none : (o : Option ℕ) → (o ≡ None) ⊎ ((m : ℕ) × (o ≡ Some m))
some_or_none None = inl refl
some_or_none (Some m) = inr (m, refl)

found_by : (h : List ℕ → ℕ) (ts : List (List ℕ)) (text : List ℕ) → all_below (good h ts) (length ts) ≡ true → placed (h text) text ts ≡ place_of text ts
found_by h ts text g = elim (some_or_none (place_of text ts)) [
  | inl e ↦ none_here h ts text g e ∙ sym e
  | inr s ↦ some_here h ts text s.0 g s.1 ∙ sym s.1
]

keywords_good : all_below (good (λ t. keyword_slot t) keywords) (length keywords) ≡ true
unfolding all_below good is_place place_of more keyword_hash
keywords_good = refl

marks_good : all_below (good (λ t. mark_slot t) marks) (length marks) ≡ true
unfolding all_below good is_place place_of more mark_hash
marks_good = refl

pub keyword_place : (text : List ℕ) (h s : ℕ) (o : Option ℕ) → h ≡ keyword_hash text → s ≡ get_or keyword_slots h 0 → o ≡ placed s text keywords → o ≡ place_of text keywords
keyword_place text h s o e f g = g ∙ ap (λ (n : ℕ). placed n text keywords) (f ∙ ap (λ (n : ℕ). get_or keyword_slots n 0) e) ∙ found_by (λ t. keyword_slot t) keywords text keywords_good

pub mark_place : (text : List ℕ) (h s : ℕ) (o : Option ℕ) → h ≡ mark_hash text → s ≡ get_or mark_slots h 0 → o ≡ placed s text marks → o ≡ place_of text marks
mark_place text h s o e f g = g ∙ ap (λ (n : ℕ). placed n text marks) (f ∙ ap (λ (n : ℕ). get_or mark_slots n 0) e) ∙ found_by (λ t. mark_slot t) marks text marks_good

pub keyword_none : (text : List ℕ) → length text ≡ 0 → None ≡ place_of text keywords
unfolding place_of more
keyword_none [] h = refl
keyword_none (b ∷ text) h = absurd (omega arith)

pub mark_none : (text : List ℕ) → length text ≡ 0 → None ≡ place_of text marks
unfolding place_of more
mark_none [] h = refl
mark_none (b ∷ text) h = absurd (omega arith)

-- by the code's texts
pub placed_past : (slot : ℕ) (text : List ℕ) (ts : List (Bor (List ℕ))) → length ts ≤ slot → None ≡ placed slot text (texts_of ts)
unfolding placed
placed_past slot text ts l = sym (rw (le-ltb slot (length (texts_of ts)) (omega (arith, length-map ts (λ (t : Bor (List ℕ)). t.now)))) refl)

pub placed_yes : (slot : ℕ) (text : List ℕ) (ts : List (Bor (List ℕ))) → slot < length ts → bytes_eq (get_or (texts_of ts) slot []) text ≡ true → Some slot ≡ placed slot text (texts_of ts)
unfolding placed
placed_yes slot text ts l h = sym (rw (lt-ltb slot (length (texts_of ts)) (omega (arith, length-map ts (λ (t : Bor (List ℕ)). t.now))), h) refl)

pub placed_no : (slot : ℕ) (text : List ℕ) (ts : List (Bor (List ℕ))) → slot < length ts → bytes_eq (get_or (texts_of ts) slot []) text ≡ false → None ≡ placed slot text (texts_of ts)
unfolding placed
placed_no slot text ts l h = sym (rw (lt-ltb slot (length (texts_of ts)) (omega (arith, length-map ts (λ (t : Bor (List ℕ)). t.now))), h) refl)
