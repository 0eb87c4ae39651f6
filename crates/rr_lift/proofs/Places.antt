-- Exact bytes stand in the file in the order of the text, each at its own place.
use Rattle.std.proofs.Common.{ℕ, zero, suc, ◌≡◌, ◌+◌, ◌≤◌, ◌<◌, ◌==◌, ◌&&◌, List, [], ◌∷◌, ◌++◌, length, drop, get_or, true, false, refl, ap, ◌∙◌, sym, subst, arith}
use Rattle.std.proofs.lemmas.Bool.{or_left, or_right, or_parts, both_ways, and_from, eq-eqb}
use Rattle.std.proofs.lemmas.List.{drop-drop, take-append-drop}
use Rattle.rr_directive.specs.declared.origin.Origin.{Origin}
use Rattle.rr_directive.specs.Pieces.{TextUnit, piece, units_of}
use Rattle.rr_directive.specs.Expand.{Event, Exact, Gives, IsExpansion, Meets, State, Step, Uses, bytes_given, bytes_of, from_use, nothing, one_blank, origins_given, origins_of, own, own_bytes, stands_for, start, whole_use}
use Rattle.rr_directive.specs.Places.{offset_at}
use Rattle.rr_directive.proofs.Outputs.{origins_append}
use Rattle.rr_lift.specs.Laws.{ExactAre, ExactRise}
use Rattle.rr_edit.specs.Lifted.{exact_at}
use Rattle.rr_lift.proofs.Marks.{drop_next}
use Rattle.rr_lift.proofs.Readings.{ReadsBytes, blank_has, first_unit, has, is_exactly, nothing_has, over, to_bytes, unit, unit_has, use_has}

-- ---- the order

-- exact origins from a place on, each behind those before it
abbrev pub Rising : ℕ → List Origin → Type 0
Rising at [] = Unit {0}
Rising at (o ∷ os) = (o.exact ≡ true → (at ≤ o.offset) × Rising (o.offset + 1) os) × Rising at os

rising_from : (at : ℕ) (os : List Origin) (k : ℕ) → Rising at os → exact_at os k ≡ true → at ≤ offset_at os k
rising_from at [] k s h = absurd (cc)
rising_from at (o ∷ os) zero s h = (s.0 h).0
rising_from at (o ∷ os) (suc k) s h = rising_from at os k s.1 h

pub rising_rise : (at : ℕ) (os : List Origin) (j k : ℕ) → Rising at os → j < k → exact_at os j ≡ true → exact_at os k ≡ true → offset_at os j < offset_at os k
rising_rise at [] j k s l h g = absurd (cc)
rising_rise at (o ∷ os) j zero s l h g = absurd (omega arith)
rising_rise at (o ∷ os) zero (suc k) s l h g = let x : o.offset + 1 ≤ offset_at os k = rising_from (o.offset + 1) os k (s.0 h).1 g in omega (arith, x)
rising_rise at (o ∷ os) (suc j) (suc k) s l h g = rising_rise at os j k s.1 (omega arith) h g

rising_less : (at n : ℕ) (os : List Origin) → at ≤ n → Rising n os → Rising at os
rising_less at n [] l s = tt
rising_less at n (o ∷ os) l s = (λ h. (omega (arith, (s.0 h).0), (s.0 h).1), rising_less at n os l s.1)

rising_append : (at n : ℕ) (os ps : List Origin) → at ≤ n → ((o : ℕ) → has o os ≡ true → o < n) → Rising at os → Rising n ps → Rising at (os ++ ps)
rising_append at n [] ps l b s t = rising_less at n ps l t
rising_append at n (o ∷ os) ps l b s t =
    let c : (p : ℕ) → has p os ≡ true → p < n = λ p h. b p (or_right (is_exactly p o) (has p os) h) in (
      λ h.
          let here : o.offset < n = b o.offset (or_left (o.exact && o.offset == o.offset) (has o.offset os) (and_from o.exact (o.offset == o.offset) h (eq-eqb o.offset o.offset refl))) in
          ((s.0 h).0, rising_append (o.offset + 1) n os ps (omega (arith, here)) c (s.0 h).1 t),
      rising_append at n os ps l c s.1 t,
    )

rising_none : (at : ℕ) (os : List Origin) → ((o : ℕ) → has o os ≡ false) → Rising at os
rising_none at [] h = tt
rising_none at (o ∷ os) h = (
  λ e. absurd (both_ways (has o.offset (o ∷ os)) (h o.offset) (or_left (o.exact && o.offset == o.offset) (has o.offset os) (and_from o.exact (o.offset == o.offset) e (eq-eqb o.offset o.offset refl)))),
  rising_none at os (λ p. (or_parts (is_exactly p o) (has p os) (h p)).1),
)

own_rising : (x : Exact) (at : ℕ) (bs : List ℕ) → Rising at (origins_of (own x at bs))
unfolding own origins_of
own_rising x at [] = tt
own_rising x at (b ∷ bs) = (λ h. (omega arith, own_rising x (at + 1) bs), rising_less at (at + 1) (origins_of (own x (at + 1) bs)) (omega arith) (own_rising x (at + 1) bs))

meets_rising : (s t : State) (u : TextUnit) (es : List Event) → Meets s u es t → Rising u.at (origins_of es)
meets_rising s t u es (own_bytes x e) = own_rising x u.at u.bytes
meets_rising s t u es (one_blank t0 e) = rising_none u.at (origins_of (stands_for u.at (Gives 32) ∷ [])) (λ o. blank_has u.at o)
meets_rising s t u es (nothing t0 e) = rising_none u.at (origins_of []) (λ o. nothing_has o)
meets_rising s t u es (whole_use steps e r) = rising_none u.at (origins_of (from_use u.at steps)) (λ o. use_has u.at steps o)

pub reads_rising : (s r : State) (at : ℕ) (bs : List ℕ) (es : List Event) → ReadsBytes s at bs es r → Rising at (origins_of es)
reads_rising s r at bs es (over s0 at0) = rising_none at (origins_of []) (λ o. nothing_has o)
reads_rising s r at bs es (unit s0 t r0 at0 b cs its later m rest) =
    let n : ℕ = (piece (b ∷ cs)).size in
    subst (Rising at) (sym (origins_append its later))
    (rising_append at (at + n) (origins_of its) (origins_of later) (omega arith) (λ o h. (unit_has s t at b cs its o m h).1) (meets_rising s t (first_unit at (b ∷ cs)) its m)
    (reads_rising t r (at + n) (drop n (b ∷ cs)) later rest))

-- ---- the bytes

abbrev ThereStep : List ℕ → Step → Origin → Type 0
ThereStep file (Gives b) o = o.exact ≡ true → (o.offset < length file) × (get_or file o.offset 0 ≡ b)
ThereStep file Uses o = Unit {0}

-- each exact byte is that of the file at its place
abbrev There : List ℕ → List Event → Type 0
There file [] = Unit {0}
There file (e ∷ es) = ThereStep file e.step e.origin × There file es

there_append : (file : List ℕ) (es fs : List Event) → There file es → There file fs → There file (es ++ fs)
there_append file [] fs a b = b
there_append file (e ∷ es) fs a b = (a.0, there_append file es fs a.1 b)

byte_there : (file ys : List ℕ) (at b : ℕ) → drop at file ≡ b ∷ ys → (at < length file) × (get_or file at 0 ≡ b)
byte_there [] ys zero b e = absurd (cc)
byte_there [] ys (suc at) b e = absurd (cc)
byte_there (c ∷ cs) ys zero b e = (omega arith, cc)
byte_there (c ∷ cs) ys (suc at) b e = let i = byte_there cs ys at b e in (omega (arith, i.0), i.1)

own_there : (file : List ℕ) (x : Exact) (at : ℕ) (bs ys : List ℕ) → drop at file ≡ bs ++ ys → There file (own x at bs)
unfolding own
own_there file x at [] ys e = tt
own_there file x at (b ∷ bs) ys e = (λ h. byte_there file (bs ++ ys) at b e, own_there file x (at + 1) bs ys (drop_next file (bs ++ ys) at b e))

use_there : (file : List ℕ) (at : ℕ) (steps : List Step) → There file (from_use at steps)
use_there file at [] = tt
use_there file at (Gives b ∷ steps) = (λ h. absurd (cc), use_there file at steps)
use_there file at (Uses ∷ steps) = (tt, use_there file at steps)

meets_there : (file : List ℕ) (s t : State) (u : TextUnit) (es : List Event) (ys : List ℕ) → drop u.at file ≡ u.bytes ++ ys → Meets s u es t → There file es
meets_there file s t u es ys e (own_bytes x a) = own_there file x u.at u.bytes ys e
meets_there file s t u es ys e (one_blank t0 a) = (λ h. absurd (cc), tt)
meets_there file s t u es ys e (nothing t0 a) = tt
meets_there file s t u es ys e (whole_use steps a r) = use_there file u.at steps

reads_there : (file : List ℕ) (s r : State) (at : ℕ) (bs : List ℕ) (es : List Event) → drop at file ≡ bs → ReadsBytes s at bs es r → There file es
reads_there file s r at bs es e (over s0 at0) = tt
reads_there file s r at bs es e (unit s0 t r0 at0 b cs its later m rest) =
    let n : ℕ = (piece (b ∷ cs)).size in
    let here : There file its = meets_there file s t (first_unit at (b ∷ cs)) its (drop n (b ∷ cs)) (e ∙ sym (take-append-drop n (b ∷ cs))) m in
    there_append file its later here (reads_there file t r (at + n) (drop n (b ∷ cs)) later (sym (drop-drop n at file) ∙ ap (drop n) e) rest)

there_at : (file : List ℕ) (es : List Event) (k : ℕ) → There file es → exact_at (origins_of es) k ≡ true →
    (offset_at (origins_of es) k < length file) × (get_or file (offset_at (origins_of es) k) 0 ≡ get_or (bytes_of es) k 0)
unfolding origins_of bytes_of
there_at file [] k t h = absurd (cc)
there_at file (e ∷ es) k t h = step e.step e.origin k t h (λ j. there_at file es j t.1)
  where
    step : (s : Step) (o : Origin) (k2 : ℕ) → ThereStep file s o × There file es → exact_at (origins_given s o ++ origins_of es) k2 ≡ true →
        ((j : ℕ) → exact_at (origins_of es) j ≡ true → (offset_at (origins_of es) j < length file) × (get_or file (offset_at (origins_of es) j) 0 ≡ get_or (bytes_of es) j 0)) →
        (offset_at (origins_given s o ++ origins_of es) k2 < length file) × (get_or file (offset_at (origins_given s o ++ origins_of es) k2) 0 ≡ get_or (bytes_given s ++ bytes_of es) k2 0)
    step (Gives b) o zero u g f = u.0 g
    step (Gives b) o (suc k2) u g f = f k2 g
    step Uses o k2 u g f = f k2 g

-- ---- the laws

pub by_bytes : (file text : List ℕ) (origins : List Origin) (x : IsExpansion file text origins) → ReadsBytes start 0 file x.events x.end
by_bytes file text origins x = to_bytes start x.end 0 file (units_of file) x.events refl x.reads

pub exact_rise : ExactRise
exact_rise file text origins x j k l h g =
    let r : Rising 0 origins = subst (Rising 0) (sym x.origins_are) (reads_rising start x.end 0 file x.events (by_bytes file text origins x)) in rising_rise 0 origins j k r l h g

pub exact_are : ExactAre
exact_are file text origins x k h =
    let t : There file x.events = reads_there file start x.end 0 file x.events refl (by_bytes file text origins x) in
    let g : exact_at (origins_of x.events) k ≡ true = ap (λ (os : List Origin). exact_at os k) (sym x.origins_are) ∙ h in
    let a = there_at file x.events k t g in
    rw (x.origins_are, x.text_is) a
