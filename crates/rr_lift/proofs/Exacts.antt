-- Which units have exact bytes, and what a unit gives with marks.
use Rattle.std.proofs.Common.{ℕ, ◌≡◌, ◌≢◌, ◌+◌, ◌≤◌, ◌<◌, ◌==◌, ◌&&◌, ◌||◌, not, List, [], ◌∷◌, ◌++◌, length, Bool, true, false, if◌then◌else◌, refl, ap, ◌∙◌, sym, arith, inl, inr, append_assoc, ◌⊎◌}
use Rattle.std.proofs.lemmas.Bool.{cases_Bool, or_cases, or_parts, and_parts, both_ways, eq-eqb}
use Rattle.std.proofs.lemmas.Bool.Decides.{nat_tests}
use Rattle.rr_directive.specs.declared.piece.Directive.TheVariants as directive
use Rattle.rr_directive.specs.declared.piece.Kind.{Kind}
use Rattle.rr_directive.specs.declared.piece.Kind.TheVariants as kind
use Rattle.rr_directive.specs.declared.origin.Origin.{Origin}
use Rattle.rr_directive.specs.Pieces.{Piece, TextUnit, has_name}
use Rattle.rr_directive.specs.Expand.{Act, Own, Blank, Silent, Expands, Wrongs, Branch, Exact, Each, Last, Nowhere, Event, Gives, Uses, Meets, State, Step, act, act_of, bytes_given, bytes_of, closing, is_defined, is_exact, is_fit, is_on, nothing, one_blank, opening, origins_given, origins_of, own, own_bytes, turning, where_read, whole_use}
use Rattle.rr_directive.proofs.Acts.{act_plain, act_escaped, on}
use Rattle.rr_edit.specs.Edits.{is_single}
use Rattle.rr_lift.proofs.Ahead.{is_nameless, takes_name}
use Rattle.rr_lift.proofs.Marks.{Marking, is_marked, marked, marked_byte, still_byte}
use Rattle.rr_lift.proofs.Readings.{blank_has, has, nothing_has, nowhere_has, opening_own, own_has, read_own, shown_own, use_has}

-- ---- exact bytes

turning_own : (s : State) (bs : List Branch) (x : Exact) → turning s bs ≡ Own x → ⊥
unfolding turning
turning_own s [] x e = cc
turning_own s (b ∷ bs) x e = elim (cases_Bool b.last) [
  | inl h ↦ let f : Wrongs ≡ Own x = rw h at e in cc
  | inr h ↦ shown_own (is_on bs) _ x (rw h at e)
]

closing_own : (s : State) (bs : List Branch) (x : Exact) → closing s bs ≡ Own x → ⊥
unfolding closing
closing_own s [] x e = cc
closing_own s (b ∷ bs) x e = shown_own (is_on bs) _ x e

either_own : (b : Bool) (t : State) (x : Exact) → (if b then Blank t else Wrongs) ≡ Own x → ⊥
either_own true t x e = cc
either_own false t x e = cc

same_exact : (x y : Exact) → Own x ≡ Own y → x ≡ y
same_exact x y e = cc

exact_kind : (s : State) (p : Piece) (k : Kind) (x : Exact) → act_of s p k ≡ Own x → x ≢ Nowhere → (is_single k && is_on s.branches) ≡ true
unfolding act_of is_single
exact_kind s p kind.Comment x e n = absurd (n (sym (same_exact Nowhere x (read_own s (Own Nowhere) x e).1)))
exact_kind s p kind.Escaped x e n = (read_own s (Own Last) x e).0
exact_kind s p kind.Plain x e n = (read_own s (Own Each) x e).0
exact_kind s p kind.Use x e n = let f : Expands ≡ Own x = (read_own s Expands x e).1 in absurd (cc)
exact_kind s p (kind.Named directive.Stays) x e n = absurd (n (sym (same_exact Nowhere x (read_own s (Own Nowhere) x e).1)))
exact_kind s p (kind.Named directive.Define) x e n = absurd (either_own (is_fit p) _ x (read_own s _ x e).1)
exact_kind s p (kind.Named directive.Undef) x e n = absurd (either_own (has_name p) _ x (read_own s _ x e).1)
exact_kind s p (kind.Named directive.Ifdef) x e n = absurd (opening_own s p (is_defined p.name s.definitions) x e)
exact_kind s p (kind.Named directive.Ifndef) x e n = absurd (opening_own s p (not (is_defined p.name s.definitions)) x e)
exact_kind s p (kind.Named directive.Else) x e n = absurd (turning_own s s.branches x e)
exact_kind s p (kind.Named directive.Endif) x e n = absurd (closing_own s s.branches x e)
exact_kind s p (kind.Named directive.Elsif) x e n = absurd (cc)

abbrev pub is_open : State → TextUnit → Bool
is_open s u = is_single u.piece.kind && is_on s.branches

exact_open : (s : State) (u : TextUnit) (x : Exact) → act s u ≡ Own x → x ≢ Nowhere → is_open s u ≡ false → ⊥
exact_open s u x e n h = both_ways (is_open s u) h (exact_kind s u.piece u.piece.kind x e n)

each_not : Each ≢ Nowhere
each_not e = cc

last_not : Last ≢ Nowhere
last_not e = cc

-- only bytes and escaped names that are read have exact bytes
pub closed_has : (s t : State) (u : TextUnit) (es : List Event) (o : ℕ) → Meets s u es t → is_open s u ≡ false → has o (origins_of es) ≡ false
closed_has s t u es o (own_bytes Each e) h = absurd (exact_open s u Each e each_not h)
closed_has s t u es o (own_bytes Last e) h = absurd (exact_open s u Last e last_not h)
closed_has s t u es o (own_bytes Nowhere e) h = nowhere_has u.at u.bytes o
closed_has s t u es o (one_blank t0 e) h = blank_has u.at o
closed_has s t u es o (nothing t0 e) h = nothing_has o
closed_has s t u es o (whole_use steps e r) h = use_has u.at steps o

own_meets : (s t : State) (u : TextUnit) (es : List Event) (x : Exact) → Meets s u es t → act s u ≡ Own x → (es ≡ own x u.at u.bytes) × (t ≡ s)
own_meets s t u es x (own_bytes y e) f = let k : y ≡ x = same_exact y x (sym e ∙ f) in (ap (λ (z : Exact). own z u.at u.bytes) k, refl)
own_meets s t u es x (one_blank t0 e) f = let k : Blank t0 ≡ Own x = sym e ∙ f in absurd (cc)
own_meets s t u es x (nothing t0 e) f = let k : Silent t0 ≡ Own x = sym e ∙ f in absurd (cc)
own_meets s t u es x (whole_use steps e r) f = let k : Expands ≡ Own x = sym e ∙ f in absurd (cc)

pub plain_meets : (s t : State) (u : TextUnit) (es : List Event) → Meets s u es t → u.piece.kind ≡ kind.Plain → is_on s.branches ≡ true → (es ≡ own Each u.at u.bytes) × (t ≡ s)
plain_meets s t u es m k h = own_meets s t u es Each m (act_plain s u k ∙ on s (Own Each) h)

pub escaped_meets : (s t : State) (u : TextUnit) (es : List Event) → Meets s u es t → u.piece.kind ≡ kind.Escaped → is_on s.branches ≡ true → (es ≡ own Last u.at u.bytes) × (t ≡ s)
escaped_meets s t u es m k h = own_meets s t u es Last m (act_escaped s u k ∙ on s (Own Last) h)

-- ---- directives without the name that they take

wrongs_meet : (s t : State) (u : TextUnit) (es : List Event) → Meets s u es t → act s u ≡ Wrongs → ⊥
wrongs_meet s t u es (own_bytes x e) f = let k : Own x ≡ Wrongs = sym e ∙ f in cc
wrongs_meet s t u es (one_blank t0 e) f = let k : Blank t0 ≡ Wrongs = sym e ∙ f in cc
wrongs_meet s t u es (nothing t0 e) f = let k : Silent t0 ≡ Wrongs = sym e ∙ f in cc
wrongs_meet s t u es (whole_use steps e r) f = let k : Expands ≡ Wrongs = sym e ∙ f in cc

silent_meets : (s t r : State) (u : TextUnit) (es : List Event) → Meets s u es t → act s u ≡ Silent r → t ≡ r
silent_meets s t r u es (own_bytes x e) f = let k : Own x ≡ Silent r = sym e ∙ f in absurd (cc)
silent_meets s t r u es (one_blank t0 e) f = let k : Blank t0 ≡ Silent r = sym e ∙ f in absurd (cc)
silent_meets s t r u es (nothing t0 e) f = let k : Silent t0 ≡ Silent r = sym e ∙ f in cc
silent_meets s t r u es (whole_use steps e q) f = let k : Expands ≡ Silent r = sym e ∙ f in absurd (cc)

-- where nothing is read a unit that is no conditional is silent
off_reads : (s : State) (a : Act) → is_on s.branches ≡ false → where_read s a ≡ Silent s
off_reads s a h = rw h refl

nameless_act : (s : State) (p : Piece) (k : Kind) → (takes_name k && not (has_name p)) ≡ true → (act_of s p k ≡ Wrongs) ⊎ ((is_on s.branches ≡ false) × (act_of s p k ≡ Silent s))
unfolding act_of takes_name
nameless_act s p kind.Comment h = absurd (cc)
nameless_act s p kind.Escaped h = absurd (cc)
nameless_act s p kind.Plain h = absurd (cc)
nameless_act s p kind.Use h = absurd (cc)
nameless_act s p (kind.Named directive.Stays) h = absurd (cc)
nameless_act s p (kind.Named directive.Define) h =
    let n : has_name p ≡ false = not_true (has_name p) h in
    elim (cases_Bool (is_on s.branches)) [
      | inl o ↦ inl (rw (o, n) refl)
      | inr o ↦ inr (o, rw o refl)
    ]
  where
    not_true : (b : Bool) → not b ≡ true → b ≡ false
    not_true true e = absurd (cc)
    not_true false e = refl
nameless_act s p (kind.Named directive.Undef) h =
    let n : has_name p ≡ false = not_true (has_name p) h in
    elim (cases_Bool (is_on s.branches)) [
      | inl o ↦ inl (rw (o, n) refl)
      | inr o ↦ inr (o, rw o refl)
    ]
  where
    not_true : (b : Bool) → not b ≡ true → b ≡ false
    not_true true e = absurd (cc)
    not_true false e = refl
nameless_act s p (kind.Named directive.Ifdef) h = inl (nameless_opens s p (is_defined p.name s.definitions) h)
  where
    nameless_opens : (v : State) (q : Piece) (holds : Bool) → not (has_name q) ≡ true → opening v q holds ≡ Wrongs
    nameless_opens v q holds e = elim (cases_Bool (has_name q)) [
      | inl t ↦ let f : not true ≡ true = rw t at e in absurd (cc)
      | inr t ↦ rw t refl
    ]
nameless_act s p (kind.Named directive.Ifndef) h = inl (nameless_opens s p (not (is_defined p.name s.definitions)) h)
  where
    nameless_opens : (v : State) (q : Piece) (holds : Bool) → not (has_name q) ≡ true → opening v q holds ≡ Wrongs
    nameless_opens v q holds e = elim (cases_Bool (has_name q)) [
      | inl t ↦ let f : not true ≡ true = rw t at e in absurd (cc)
      | inr t ↦ rw t refl
    ]
nameless_act s p (kind.Named directive.Else) h = absurd (cc)
nameless_act s p (kind.Named directive.Endif) h = absurd (cc)
nameless_act s p (kind.Named directive.Elsif) h = absurd (cc)

pub nameless_off : (s t : State) (u : TextUnit) (es : List Event) → Meets s u es t → is_nameless u.piece ≡ true → (is_on s.branches ≡ false) × (t ≡ s)
nameless_off s t u es m h = elim (nameless_act s u.piece u.piece.kind h) [
  | inl w ↦ absurd (wrongs_meet s t u es m w)
  | inr w ↦ (w.0, silent_meets s t s u es m w.1)
]

-- a byte where nothing is read
pub plain_off : (s t : State) (u : TextUnit) (es : List Event) → Meets s u es t → u.piece.kind ≡ kind.Plain → is_on s.branches ≡ false → t ≡ s
plain_off s t u es m k h = silent_meets s t s u es m (act_plain s u k ∙ off_reads s (Own Each) h)

-- ---- what events give with marks

abbrev pub made_event : Marking → Step → Origin → List ℕ
made_event m (Gives b) o = if o.exact then marked_byte m o.offset b else b ∷ []
made_event m Uses o = []

unfoldable pub made : Marking → List Event → List ℕ
made m [] = []
made m (e ∷ es) = made_event m e.step e.origin ++ made m es

pub made_append : (m : Marking) (es fs : List Event) → made m (es ++ fs) ≡ made m es ++ made m fs
unfolding made
made_append m [] fs = refl
made_append m (e ∷ es) fs = ap (λ (xs : List ℕ). made_event m e.step e.origin ++ xs) (made_append m es fs) ∙ sym (append_assoc (made_event m e.step e.origin) (made m es) (made m fs))

not_exact : (x : Bool) (n : ℕ) → (x && n == n) ≡ false → x ≡ false
not_exact true n e = absurd (both_ways (n == n) e (eq-eqb n n refl))
not_exact false n e = refl

-- events without an exact byte give what they gave
pub made_same : (m : Marking) (es : List Event) → ((o : ℕ) → has o (origins_of es) ≡ false) → made m es ≡ bytes_of es
unfolding made bytes_of origins_of
made_same m [] h = refl
made_same m (e ∷ es) h = step e.step e.origin h (made_same m es)
  where
    step : (s : Step) (p : Origin) → ((o : ℕ) → has o (origins_given s p ++ origins_of es) ≡ false) → (((o : ℕ) → has o (origins_of es) ≡ false) → made m es ≡ bytes_of es) →
        made_event m s p ++ made m es ≡ bytes_given s ++ bytes_of es
    step Uses p g f = f g
    step (Gives b) p g f =
        let k = or_parts (p.exact && p.offset == p.offset) (has p.offset (origins_of es)) (g p.offset) in
        let x : p.exact ≡ false = not_exact p.exact p.offset k.0 in
        let i = f (λ o. (or_parts (p.exact && p.offset == o) (has o (origins_of es)) (g o)).1) in
        rw x (ap (λ (xs : List ℕ). b ∷ xs) i)

-- own bytes, of which none but exact ones is marked, give themselves with their marks
pub made_own : (m : Marking) (x : Exact) (at : ℕ) (bs : List ℕ) → ((o : ℕ) → at ≤ o → o < at + length bs → is_marked m o ≡ true → has o (origins_of (own x at bs)) ≡ true) →
    made m (own x at bs) ≡ marked m at bs
unfolding made own origins_of
made_own m x at [] h = refl
made_own m x at (b ∷ bs) h =
    let i : made m (own x (at + 1) bs) ≡ marked m (at + 1) bs = made_own m x (at + 1) bs
    (λ o l n k.
    elim (or_cases (is_exact x bs && at == o) (has o (origins_of (own x (at + 1) bs))) (h o (omega arith) (omega arith) k)) [
      | inl e ↦ let q : (at == o) ≡ true = (and_parts (is_exact x bs) (at == o) e).1 in absurd (grind (arith, nat_tests))
      | inr e ↦ e
    ]) in
    elim (cases_Bool (is_exact x bs)) [
      | inl e ↦ rw (e, i) refl
      | inr e ↦ elim (cases_Bool (is_marked m at)) [
        | inl k ↦ let g : (is_exact x bs && at == at || has at (origins_of (own x (at + 1) bs))) ≡ true = h at (omega arith) (omega arith) k in absurd (later x at bs (rw e at g))
        | inr k ↦ rw (e, i, still_byte m at b k) refl
      ]
    ]
  where
    later : (y : Exact) (n : ℕ) (cs : List ℕ) → has n (origins_of (own y (n + 1) cs)) ≡ true → ⊥
    later y n cs g = let k = own_has y (n + 1) cs n g in omega (arith, k.0)
