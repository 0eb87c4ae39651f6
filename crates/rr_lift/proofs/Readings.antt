-- Reading a file by its bytes, and the places of its exact bytes.
use Rattle.std.proofs.Common.{ℕ, zero, suc, ◌≡◌, ◌+◌, ◌-◌, ◌≤◌, ◌<◌, ◌==◌, ◌&&◌, ◌||◌, List, [], ◌∷◌, ◌++◌, length, take, drop, Bool, true, false, refl, ap, ◌∙◌, sym, subst, arith, inl, inr}
use Rattle.std.specs.List.{list_any}
use Rattle.std.proofs.lemmas.Bool.{cases_Bool, or_cases, and_parts, both_ways}
use Rattle.std.proofs.lemmas.Bool.Decides.{nat_tests}
use Rattle.std.proofs.lemmas.List.Folds.{list_any-append}
use Rattle.rr_directive.specs.declared.origin.Origin.{Origin}
use Rattle.rr_directive.specs.Pieces.{Piece, TextUnit, has_name, piece, units}
use Rattle.rr_directive.specs.Expand.{Act, Own, Silent, Wrongs, Exact, Nowhere, Event, Gives, Uses, Meets, ReadsAll, State, Step, from_use, is_exact, is_on, more, none, nothing, one_blank, opening, origins_of, own, own_bytes, shown, stands_for, where_read, whole_use}
use Rattle.rr_directive.proofs.Outputs.{origins_append}
use Rattle.rr_directive.proofs.Plain.{some_size}

-- ---- units, one by one

abbrev pub first_unit : ℕ → List ℕ → TextUnit
first_unit at bs = record { at = at; piece = piece bs; bytes = take (piece bs).size bs }

units_skip : (at k : ℕ) (bs : List ℕ) → units at k bs ≡ units (at + k) 0 (drop k bs)
unfolding units
units_skip at zero bs = let e : at ≡ at + 0 = omega arith in ap (λ (n : ℕ). units n 0 bs) e
units_skip at (suc k) [] = refl
units_skip at (suc k) (b ∷ bs) = let e : at + 1 + k ≡ at + suc k = omega arith in units_skip (at + 1) k bs ∙ ap (λ (n : ℕ). units n 0 (drop k bs)) e

rest_at : (at n b : ℕ) (bs : List ℕ) → 1 ≤ n → units (at + 1) (n - 1) bs ≡ units (at + n) 0 (drop n (b ∷ bs))
rest_at at zero b bs l = absurd (omega arith)
rest_at at (suc n) b bs l =
    let e : suc n - 1 ≡ n = omega arith in
    let f : at + 1 + n ≡ at + suc n = omega arith in
    ap (λ (k : ℕ). units (at + 1) k bs) e ∙ (units_skip (at + 1) n bs ∙ ap (λ (k : ℕ). units k 0 (drop n bs)) f)

pub units_one : (at b : ℕ) (bs : List ℕ) → units at 0 (b ∷ bs) ≡ first_unit at (b ∷ bs) ∷ units (at + (piece (b ∷ bs)).size) 0 (drop (piece (b ∷ bs)).size (b ∷ bs))
unfolding units
units_one at b bs = ap (λ (us : List TextUnit). first_unit at (b ∷ bs) ∷ us) (rest_at at (piece (b ∷ bs)).size b bs (some_size (b ∷ bs)))

pub units_none : (at : ℕ) → units at 0 [] ≡ []
unfolding units
units_none at = refl

-- reading bytes from a place on
pub data ReadsBytes : State → ℕ → List ℕ → List Event → State → Type 0 where
  over : (s : State) (at : ℕ) → ReadsBytes s at [] [] s
  unit : (s t r : State) (at b : ℕ) (bs : List ℕ) (events later : List Event) → Meets s (first_unit at (b ∷ bs)) events t →
      ReadsBytes t (at + (piece (b ∷ bs)).size) (drop (piece (b ∷ bs)).size (b ∷ bs)) later r → ReadsBytes s at (b ∷ bs) (events ++ later) r

pub head_is : (u v : TextUnit) (us vs : List TextUnit) → u ∷ us ≡ v ∷ vs → (u ≡ v) × (us ≡ vs)
head_is u v us vs e = (cc, cc)

pub to_bytes : (s r : State) (at : ℕ) (bs : List ℕ) (us : List TextUnit) (events : List Event) → units at 0 bs ≡ us → ReadsAll s us events r → ReadsBytes s at bs events r
to_bytes s r at [] us events e (none s0) = over s at
to_bytes s r at (b ∷ bs) us events e (none s0) = let f : first_unit at (b ∷ bs) ∷ units (at + (piece (b ∷ bs)).size) 0 (drop (piece (b ∷ bs)).size (b ∷ bs)) ≡ [] = sym (units_one at b bs) ∙ e in absurd (cc)
to_bytes s r at [] us events e (more s0 t r0 u vs its later m rest) = let f : [] ≡ u ∷ vs = sym (units_none at) ∙ e in absurd (cc)
to_bytes s r at (b ∷ bs) us events e (more s0 t r0 u vs its later m rest) =
    let k = head_is (first_unit at (b ∷ bs)) u (units (at + (piece (b ∷ bs)).size) 0 (drop (piece (b ∷ bs)).size (b ∷ bs))) vs (sym (units_one at b bs) ∙ e) in
    unit s t r at b bs its later (subst (λ (v : TextUnit). Meets s v its t) (sym k.0) m) (to_bytes t r (at + (piece (b ∷ bs)).size) (drop (piece (b ∷ bs)).size (b ∷ bs)) vs later k.1 rest)

pub from_bytes : (s r : State) (at : ℕ) (bs : List ℕ) (events : List Event) → ReadsBytes s at bs events r → ReadsAll s (units at 0 bs) events r
from_bytes s r at bs events (over s0 at0) = subst (λ (us : List TextUnit). ReadsAll s us [] s) (sym (units_none at)) (none s)
from_bytes s r at bs events (unit s0 t r0 at0 b cs its later m rest) =
    subst (λ (us : List TextUnit). ReadsAll s us (its ++ later) r) (sym (units_one at b cs))
    (more s t r (first_unit at (b ∷ cs)) (units (at + (piece (b ∷ cs)).size) 0 (drop (piece (b ∷ cs)).size (b ∷ cs))) its later m
    (from_bytes t r (at + (piece (b ∷ cs)).size) (drop (piece (b ∷ cs)).size (b ∷ cs)) later rest))

-- ---- places of exact bytes

abbrev pub is_exactly : ℕ → Origin → Bool
is_exactly at o = o.exact && o.offset == at

-- an exact byte of this place is among these
abbrev pub has : ℕ → List Origin → Bool
has at os = list_any (is_exactly at) os

pub has_append : (at : ℕ) (es fs : List Event) → has at (origins_of (es ++ fs)) ≡ (has at (origins_of es) || has at (origins_of fs))
has_append at es fs = ap (has at) (origins_append es fs) ∙ list_any-append (is_exactly at) (origins_of es) (origins_of fs)

pub own_has : (x : Exact) (at : ℕ) (bs : List ℕ) (o : ℕ) → has o (origins_of (own x at bs)) ≡ true → (at ≤ o) × (o < at + length bs)
unfolding own origins_of
own_has x at [] o h = absurd (cc)
own_has x at (b ∷ bs) o h = elim (or_cases (is_exact x bs && at == o) (has o (origins_of (own x (at + 1) bs))) h) [
  | inl k ↦ let e : (at == o) ≡ true = (and_parts (is_exact x bs) (at == o) k).1 in let q : at ≡ o = grind (arith, nat_tests) in (omega (arith, q), omega (arith, q))
  | inr k ↦ let i = own_has x (at + 1) bs o k in (omega (arith, i.0), omega (arith, i.1))
]

pub nowhere_has : (at : ℕ) (bs : List ℕ) (o : ℕ) → has o (origins_of (own Nowhere at bs)) ≡ false
unfolding own origins_of is_exact
nowhere_has at [] o = refl
nowhere_has at (b ∷ bs) o = nowhere_has (at + 1) bs o

pub use_has : (at : ℕ) (steps : List Step) (o : ℕ) → has o (origins_of (from_use at steps)) ≡ false
unfolding origins_of
use_has at [] o = refl
use_has at (Gives b ∷ steps) o = use_has at steps o
use_has at (Uses ∷ steps) o = use_has at steps o

pub blank_has : (at o : ℕ) → has o (origins_of (stands_for at (Gives 32) ∷ [])) ≡ false
unfolding origins_of
blank_has at o = refl

pub nothing_has : (o : ℕ) → has o (origins_of []) ≡ false
unfolding origins_of
nothing_has o = refl

meets_has : (s t : State) (u : TextUnit) (es : List Event) (o : ℕ) → Meets s u es t → has o (origins_of es) ≡ true → (u.at ≤ o) × (o < u.at + length u.bytes)
meets_has s t u es o (own_bytes x e) h = own_has x u.at u.bytes o h
meets_has s t u es o (one_blank t0 e) h = absurd (both_ways (has o (origins_of (stands_for u.at (Gives 32) ∷ []))) (blank_has u.at o) h)
meets_has s t u es o (nothing t0 e) h = absurd (both_ways (has o (origins_of [])) (nothing_has o) h)
meets_has s t u es o (whole_use steps e r) h = absurd (both_ways (has o (origins_of (from_use u.at steps))) (use_has u.at steps o) h)

pub few_taken : (n : ℕ) (bs : List ℕ) → length (take n bs) ≤ n
few_taken zero bs = omega arith
few_taken (suc n) [] = omega arith
few_taken (suc n) (b ∷ bs) = omega (arith, few_taken n bs)

-- the exact bytes of a unit stand in it
pub unit_has : (s t : State) (at b : ℕ) (bs : List ℕ) (es : List Event) (o : ℕ) → Meets s (first_unit at (b ∷ bs)) es t → has o (origins_of es) ≡ true → (at ≤ o) × (o < at + (piece (b ∷ bs)).size)
unit_has s t at b bs es o m h = let k = meets_has s t (first_unit at (b ∷ bs)) es o m h in (k.0, omega (arith, k.1, few_taken (piece (b ∷ bs)).size (b ∷ bs)))

-- and those of bytes not before these
pub reads_has : (s r : State) (at : ℕ) (bs : List ℕ) (es : List Event) (o : ℕ) → ReadsBytes s at bs es r → has o (origins_of es) ≡ true → at ≤ o
reads_has s r at bs es o (over s0 at0) h = absurd (both_ways (has o (origins_of [])) (nothing_has o) h)
reads_has s r at bs es o (unit s0 t r0 at0 b cs its later m rest) h = elim (or_cases (has o (origins_of its)) (has o (origins_of later)) (sym (has_append o its later) ∙ h)) [
  | inl k ↦ (unit_has s t at b cs its o m k).0
  | inr k ↦ let l : at + (piece (b ∷ cs)).size ≤ o = reads_has t r (at + (piece (b ∷ cs)).size) (drop (piece (b ∷ cs)).size (b ∷ cs)) later o rest k in omega (arith, l)
]

-- ---- which units have exact bytes

pub read_own : (s : State) (a : Act) (x : Exact) → where_read s a ≡ Own x → (is_on s.branches ≡ true) × (a ≡ Own x)
read_own s a x e = elim (cases_Bool (is_on s.branches)) [
  | inl h ↦ (h, rw h at e)
  | inr h ↦ let f : Silent s ≡ Own x = rw h at e in absurd (cc)
]

pub shown_own : (on : Bool) (s : State) (x : Exact) → shown on s ≡ Own x → ⊥
shown_own true s x e = cc
shown_own false s x e = cc

pub opening_own : (s : State) (p : Piece) (holds : Bool) (x : Exact) → opening s p holds ≡ Own x → ⊥
opening_own s p holds x e = elim (cases_Bool (has_name p)) [
  | inl h ↦ shown_own (is_on s.branches) _ x (rw h at e)
  | inr h ↦ let f : Wrongs ≡ Own x = rw h at e in cc
]
