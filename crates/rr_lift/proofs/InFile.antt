-- Edits that lift, as marks of the file.
use Rattle.std.proofs.Common.{ℕ, zero, suc, ◌≡◌, ◌+◌, ◌-◌, ◌≤◌, ◌<◌, ◌==◌, ◌&&◌, nat_le, nat_lt, List, [], ◌∷◌, ◌++◌, length, drop, get_or, Bool, true, false, if◌then◌else◌, refl, ap, ◌∙◌, sym, arith, inl, inr, append_assoc}
use Rattle.std.specs.List.{All, list_any}
use Rattle.std.proofs.lemmas.Bool.{and_from, and_parts, both_ways, cases_Bool, or_cases}
use Rattle.std.proofs.lemmas.Bool.Decides.{nat_tests}
use Rattle.std.proofs.lemmas.List.{get_or-drop, get_or-take, length-drop, length-take-le}
use Rattle.std.proofs.lemmas.List.Elements.{All-cons, All-head, All-nil, All-tail}
use Rattle.std.proofs.lemmas.List.Folds.{list_any_at}
use Rattle.rr_directive.specs.declared.origin.Origin.{Origin}
use Rattle.rr_directive.specs.Places.{no_origin, offset_at}
use Rattle.rr_edit.specs.Edits.{AreEdits, Edit, InOrder, IsPlaced, IsPut}
use Rattle.rr_edit.specs.Lifted.{adjoin, exact_at, is_anchor, is_next, lifted, lifts, replaced, replaces, texts_at}
use Rattle.rr_lift.proofs.Marks.{Marking, marked}
use Rattle.rr_lift.proofs.Readings.{has, is_exactly}
use Rattle.rr_lift.proofs.Scan.{covers, ending}

-- what edits do to the file
abbrev pub in_file : List Origin → List Edit → Marking
in_file origins es = record { gone = λ o. list_any (replaces origins o) es; put = λ o. texts_at origins o es }

pub lifted_marked : (origins : List Origin) (es : List Edit) (at : ℕ) (bs : List ℕ) → lifted origins es at bs ≡ marked (in_file origins es) at bs
unfolding lifted
lifted_marked origins es at [] = refl
lifted_marked origins es at (b ∷ bs) =
    let first : List ℕ = if list_any (replaces origins at) es then [] else b ∷ [] in
    ap (λ (xs : List ℕ). first ++ (texts_at origins at es ++ xs)) (lifted_marked origins es (at + 1) bs) ∙ sym (append_assoc first (texts_at origins at es) (marked (in_file origins es) (at + 1) bs))

-- ---- one edit

-- the exact bytes of a text stand in the file in their order, and are its bytes
pub record Exactly (file text : List ℕ) (origins : List Origin) : Type 0 where
  pub rise : (j k : ℕ) → j < k → exact_at origins j ≡ true → exact_at origins k ≡ true → offset_at origins j < offset_at origins k
  pub are : (k : ℕ) → exact_at origins k ≡ true → (offset_at origins k < length file) × (get_or file (offset_at origins k) 0 ≡ get_or text k 0)

-- an edit that lifts and is placed
pub record Fits (text : List ℕ) (origins : List Origin) (e : Edit) : Type 0 where
  pub lifted : lifts origins e ≡ true
  pub placed : IsPlaced text e
  pub put : IsPut e.text
  pub ordered : e.from ≤ e.to
  pub within : e.to ≤ length origins

all_fit : (text : List ℕ) (origins : List Origin) (at end : ℕ) (es : List Edit) → end ≤ length origins → InOrder at end es → All (IsPlaced text) es → All (λ e. IsPut e.text) es → All (λ e. lifts origins e ≡ true) es →
    All (Fits text origins) es
unfolding InOrder
all_fit text origins at end [] l o p t h = All-nil (Fits text origins)
all_fit text origins at end (e ∷ es) l o p t h =
    All-cons (Fits text origins) e es
    (record {
      lifted = All-head (λ (f : Edit). lifts origins f ≡ true) e es h;
      placed = All-head (IsPlaced text) e es p;
      put = All-head (λ (f : Edit). IsPut f.text) e es t;
      ordered = o.1.0;
      within = ends_within e.to end es o.1.1 l;
    })
    (all_fit text origins e.to end es l o.1.1 (All-tail (IsPlaced text) e es p) (All-tail (λ (f : Edit). IsPut f.text) e es t) (All-tail (λ (f : Edit). lifts origins f ≡ true) e es h))
  where
    ends_within : (n m : ℕ) (fs : List Edit) → InOrder n m fs → m ≤ length origins → n ≤ length origins
    ends_within n m [] q k = omega (arith, q, k)
    ends_within n m (f ∷ fs) q k = let i = ends_within f.to m fs q.1.1 k in omega (arith, i, q.0, q.1.0)

pub fits : (text : List ℕ) (origins : List Origin) (es : List Edit) → length origins ≡ length text → AreEdits text es → All (λ e. lifts origins e ≡ true) es → All (Fits text origins) es
fits text origins es l a h = all_fit text origins 0 (length text) es (omega (arith, l)) a.order a.placed a.put h

pub exact_room : (os : List Origin) (k : ℕ) → exact_at os k ≡ true → k < length os
exact_room [] k h = absurd (cc)
exact_room (o ∷ os) zero h = omega arith
exact_room (o ∷ os) (suc k) h = omega (arith, exact_room os k h)

pub has_at : (os : List Origin) (k : ℕ) → exact_at os k ≡ true → has (offset_at os k) os ≡ true
has_at os k h = list_any_at (is_exactly (offset_at os k)) os k no_origin (exact_room os k h) (and_from (exact_at os k) (offset_at os k == offset_at os k) h (grind (arith, nat_tests)))

adjoin_at : (os : List Origin) (i : ℕ) → adjoin os ≡ true → i < length os → (exact_at os i ≡ true) × (offset_at os i ≡ offset_at os 0 + i)
unfolding adjoin
adjoin_at [] i h l = absurd (omega arith)
adjoin_at (o ∷ os) zero h l = ((and_parts o.exact (is_next o os && adjoin os) h).0, omega arith)
adjoin_at (o ∷ []) (suc i) h l = absurd (omega arith)
adjoin_at (o ∷ (p ∷ os)) (suc i) h l =
    let k = and_parts o.exact ((p.offset == o.offset + 1) && adjoin (p ∷ os)) h in
    let n = and_parts (p.offset == o.offset + 1) (adjoin (p ∷ os)) k.1 in
    let r = adjoin_at (p ∷ os) i n.1 (omega arith) in
    let q : p.offset ≡ o.offset + 1 = grind (arith, nat_tests) in
    (r.0, omega (arith, r.1, q))

pub lift_parts : (origins : List Origin) (e : Edit) → lifts origins e ≡ true → (0 < e.to) × ((exact_at origins (e.to - 1) ≡ true) × (adjoin (replaced origins e) ≡ true))
lift_parts origins e h =
    let a = and_parts (nat_lt 0 e.to) (exact_at origins (e.to - 1) && adjoin (replaced origins e)) h in
    let b = and_parts (exact_at origins (e.to - 1)) (adjoin (replaced origins e)) a.1 in
    (grind (arith, nat_tests, a.0), (b.0, b.1))

replaced_at : (origins : List Origin) (e : Edit) (i : ℕ) → i < e.to - e.from → get_or (replaced origins e) i no_origin ≡ get_or origins (e.from + i) no_origin
replaced_at origins e i l = get_or-take (e.to - e.from) (drop e.from origins) i no_origin l ∙ get_or-drop e.from origins i no_origin

replaced_length : (text : List ℕ) (origins : List Origin) (e : Edit) → Fits text origins e → length (replaced origins e) ≡ e.to - e.from
replaced_length text origins e f = length-take-le (e.to - e.from) (drop e.from origins) (omega (arith, length-drop e.from origins, f.within, f.ordered))

-- the bytes that it replaces are exact, and stand in the file one behind the other
pub replaced_stand : (text : List ℕ) (origins : List Origin) (e : Edit) (k : ℕ) → Fits text origins e → e.from ≤ k → k < e.to →
    (exact_at origins k ≡ true) × (offset_at origins k ≡ offset_at origins e.from + (k - e.from))
replaced_stand text origins e k f l u =
    let a = adjoin_at (replaced origins e) (k - e.from) (lift_parts origins e f.lifted).1.1 (omega (arith, replaced_length text origins e f, l, u)) in
    let p : get_or (replaced origins e) (k - e.from) no_origin ≡ get_or origins k no_origin = replaced_at origins e (k - e.from) (omega (arith, l, u)) ∙ ap (λ (i : ℕ). get_or origins i no_origin) (omega (arith, l)) in
    let q : get_or (replaced origins e) 0 no_origin ≡ get_or origins e.from no_origin = replaced_at origins e 0 (omega (arith, l, u)) ∙ ap (λ (i : ℕ). get_or origins i no_origin) (omega arith) in
    (ap (λ (o : Origin). o.exact) (sym p) ∙ a.0, ap (λ (o : Origin). o.offset) (sym p) ∙ (a.1 ∙ ap (λ (o : Origin). o.offset + (k - e.from)) q))

pub replaces_it : (text : List ℕ) (origins : List Origin) (e : Edit) (k o : ℕ) → Fits text origins e → e.from ≤ k → k < e.to → offset_at origins k ≡ o → replaces origins o e ≡ true
replaces_it text origins e k o f l u q =
    let p : get_or (replaced origins e) (k - e.from) no_origin ≡ get_or origins k no_origin = replaced_at origins e (k - e.from) (omega (arith, l, u)) ∙ ap (λ (i : ℕ). get_or origins i no_origin) (omega (arith, l)) in
    let r : (get_or (replaced origins e) (k - e.from) no_origin).offset ≡ o = ap (λ (x : Origin). x.offset) p ∙ q in
    list_any_at (λ (x : Origin). x.offset == o) (replaced origins e) (k - e.from) no_origin (omega (arith, replaced_length text origins e f, l, u)) (grind (arith, nat_tests, r))

any_at : (p : Origin → Bool) (os : List Origin) → list_any p os ≡ true → (i : ℕ) × ((i < length os) × (p (get_or os i no_origin) ≡ true))
any_at p [] h = absurd (cc)
any_at p (o ∷ os) h = elim (or_cases (p o) (list_any p os) h) [
  | inl x ↦ (0, (omega arith, x))
  | inr x ↦ let r = any_at p os x in (suc r.0, (omega (arith, r.1.0), r.1.1))
]

-- what it replaces in the file it replaces in the text
pub replaces_some : (text : List ℕ) (origins : List Origin) (e : Edit) (o : ℕ) → Fits text origins e → replaces origins o e ≡ true → (k : ℕ) × ((e.from ≤ k) × ((k < e.to) × (offset_at origins k ≡ o)))
replaces_some text origins e o f h =
    let r = any_at (λ (x : Origin). x.offset == o) (replaced origins e) h in
    let l : r.0 < e.to - e.from = omega (arith, r.1.0, replaced_length text origins e f) in
    let p : get_or (replaced origins e) r.0 no_origin ≡ get_or origins (e.from + r.0) no_origin = replaced_at origins e r.0 l in
    let q : (get_or (replaced origins e) r.0 no_origin).offset ≡ o = grind (arith, nat_tests, r.1.1) in
    (e.from + r.0, (omega arith, (omega (arith, l), ap (λ (x : Origin). x.offset) (sym p) ∙ q)))

-- ---- marks of the file at exact bytes are those of the text

-- an exact byte of the text stands at this place, and no other
pub record Stands (origins : List Origin) (k o : ℕ) : Type 0 where
  pub here : offset_at origins k ≡ o
  pub only : (j : ℕ) → exact_at origins j ≡ true → offset_at origins j ≡ o → j ≡ k

covers_yes : (k : ℕ) (e : Edit) → covers k e ≡ true → (e.from ≤ k) × (k < e.to)
covers_yes k e h = let p = and_parts (nat_le e.from k) (nat_lt k e.to) h in (grind (arith, nat_tests, p.0), grind (arith, nat_tests, p.1))

covers_from : (k : ℕ) (e : Edit) → e.from ≤ k → k < e.to → covers k e ≡ true
covers_from k e l u = and_from (nat_le e.from k) (nat_lt k e.to) (grind (arith, nat_tests, l)) (grind (arith, nat_tests, u))

same_truth : (a b : Bool) → (a ≡ true → b ≡ true) → (b ≡ true → a ≡ true) → a ≡ b
same_truth true true f g = refl
same_truth true false f g = sym (f refl)
same_truth false true f g = g refl
same_truth false false f g = refl

replaces_same : (text : List ℕ) (origins : List Origin) (e : Edit) (k o : ℕ) → Fits text origins e → Stands origins k o → replaces origins o e ≡ covers k e
replaces_same text origins e k o f s =
    same_truth (replaces origins o e) (covers k e)
    (λ h.
    let r = replaces_some text origins e o f h in
    let x = replaced_stand text origins e r.0 f r.1.0 r.1.1.0 in
    let q : r.0 ≡ k = s.only r.0 x.0 r.1.1.1 in
    covers_from k e (omega (arith, r.1.0, q)) (omega (arith, r.1.1.0, q)))
    (λ h. let c = covers_yes k e h in replaces_it text origins e k o f c.0 c.1 s.here)

anchor_same : (text : List ℕ) (origins : List Origin) (e : Edit) (k o : ℕ) → Fits text origins e → Stands origins k o → is_anchor origins o e ≡ (e.to == k + 1)
anchor_same text origins e k o f s =
    let p = lift_parts origins e f.lifted in
    same_truth (is_anchor origins o e) (e.to == k + 1)
    (λ h.
    let x : offset_at origins (e.to - 1) ≡ o = grind (arith, nat_tests, h) in
    let q : e.to - 1 ≡ k = s.only (e.to - 1) p.1.0 x in
    let r : e.to ≡ k + 1 = omega (arith, q, p.0) in grind (arith, nat_tests, r))
    (λ h.
    let r : e.to ≡ k + 1 = grind (arith, nat_tests, h) in
    let q : e.to - 1 ≡ k = omega (arith, r) in
    let x : offset_at origins (e.to - 1) ≡ o = ap (offset_at origins) q ∙ s.here in grind (arith, nat_tests, x))

pub gone_same : (text : List ℕ) (origins : List Origin) (es : List Edit) (k o : ℕ) → All (Fits text origins) es → Stands origins k o → list_any (replaces origins o) es ≡ list_any (covers k) es
gone_same text origins [] k o f s = refl
gone_same text origins (e ∷ es) k o f s =
    let a = replaces_same text origins e k o (All-head (Fits text origins) e es f) s in
    let i = gone_same text origins es k o (All-tail (Fits text origins) e es f) s in
    rw (a, i) refl

pub put_same : (text : List ℕ) (origins : List Origin) (es : List Edit) (k o : ℕ) → All (Fits text origins) es → Stands origins k o → texts_at origins o es ≡ ending es (k + 1)
unfolding texts_at
put_same text origins [] k o f s = refl
put_same text origins (e ∷ es) k o f s =
    let a = anchor_same text origins e k o (All-head (Fits text origins) e es f) s in
    let i = put_same text origins es k o (All-tail (Fits text origins) e es f) s in
    rw (a, i) refl

-- a byte that is not exact has no mark in the text
not_covered : (text : List ℕ) (origins : List Origin) (e : Edit) (k : ℕ) → Fits text origins e → exact_at origins k ≡ false → (covers k e ≡ false) × ((e.to == k + 1) ≡ false)
not_covered text origins e k f h = (
  elim (cases_Bool (covers k e)) [
    | inl c ↦ let p = covers_yes k e c in absurd (both_ways (exact_at origins k) h (replaced_stand text origins e k f p.0 p.1).0)
    | inr c ↦ c
  ],
  elim (cases_Bool (e.to == k + 1)) [
    | inl c ↦
        let r : e.to ≡ k + 1 = grind (arith, nat_tests, c) in
        let q : e.to - 1 ≡ k = omega (arith, r) in
        absurd (both_ways (exact_at origins k) h (ap (exact_at origins) (sym q) ∙ (lift_parts origins e f.lifted).1.0))
    | inr c ↦ c
  ],
)

pub none_gone : (text : List ℕ) (origins : List Origin) (es : List Edit) (k : ℕ) → All (Fits text origins) es → exact_at origins k ≡ false → (list_any (covers k) es ≡ false) × (ending es (k + 1) ≡ [])
none_gone text origins [] k f h = (refl, refl)
none_gone text origins (e ∷ es) k f h =
    let a = not_covered text origins e k (All-head (Fits text origins) e es f) h in
    let i = none_gone text origins es k (All-tail (Fits text origins) e es f) h in
    (rw (a.0, i.0) refl, rw (a.1, i.1) refl)

pub ending_zero : (text : List ℕ) (origins : List Origin) (es : List Edit) → All (Fits text origins) es → ending es 0 ≡ []
ending_zero text origins [] f = refl
ending_zero text origins (e ∷ es) f =
    let p = lift_parts origins e (All-head (Fits text origins) e es f).lifted in
    let q : (e.to == 0) ≡ false = grind (arith, nat_tests, p.0) in
    rw q (ending_zero text origins es (All-tail (Fits text origins) e es f))
