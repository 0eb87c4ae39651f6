-- Edits of a text as marks of its bytes.
use Rattle.std.proofs.Common.{ℕ, suc, ◌≡◌, ◌+◌, ◌-◌, ◌≤◌, ◌<◌, ◌==◌, ◌&&◌, ◌||◌, nat_le, nat_lt, List, [], ◌∷◌, ◌++◌, length, take, drop, Bool, true, false, if◌then◌else◌, refl, ap, ◌∙◌, sym, subst, arith, inl, inr, append_assoc}
use Rattle.std.specs.List.{list_any}
use Rattle.std.proofs.lemmas.Bool.{cases_Bool, cases_lt}
use Rattle.std.proofs.lemmas.Bool.Decides.{nat_tests}
use Rattle.rr_edit.specs.Edits.{Edit, InOrder, edited}
use Rattle.rr_lift.proofs.Marks.{Marking, marked}

-- it replaces the byte at this place of the text
abbrev pub covers : ℕ → Edit → Bool
covers k e = nat_le e.from k && nat_lt k e.to

-- the texts of the edits that end at a place
abbrev pub ending : List Edit → ℕ → List ℕ
ending [] n = []
ending (e ∷ es) n = (if e.to == n then e.text else []) ++ ending es n

abbrev pub in_text : List Edit → Marking
in_text es = record { gone = λ k. list_any (covers k) es; put = λ k. ending es (k + 1) }

pub marked_alike : (m n : Marking) (at : ℕ) (bs : List ℕ) → ((k : ℕ) → at ≤ k → k < at + length bs → (m.gone k ≡ n.gone k) × (m.put k ≡ n.put k)) → marked m at bs ≡ marked n at bs
marked_alike m n at [] h = refl
marked_alike m n at (b ∷ bs) h =
    let p = h at (omega arith) (omega arith) in
    let i = marked_alike m n (at + 1) bs (λ k l u. h k (omega arith) (omega arith)) in
    rw (p.0, p.1, i) refl

-- ---- edits further behind

order_on : (at n end : ℕ) (e : Edit) (es : List Edit) → InOrder at end (e ∷ es) → n ≤ e.from → InOrder n end (e ∷ es)
unfolding InOrder
order_on at n end e es o l = (l, (o.1.0, o.1.1))

order_parts : (at end : ℕ) (e : Edit) (es : List Edit) → InOrder at end (e ∷ es) → (at ≤ e.from) × ((e.from ≤ e.to) × InOrder e.to end es)
unfolding InOrder
order_parts at end e es o = o

order_make : (at end : ℕ) (e : Edit) (es : List Edit) → at ≤ e.from → e.from ≤ e.to → InOrder e.to end es → InOrder at end (e ∷ es)
unfolding InOrder
order_make at end e es a b c = (a, (b, c))

order_end : (at end : ℕ) (es : List Edit) → InOrder at end es → at ≤ end
unfolding InOrder
order_end at end [] o = o
order_end at end (e ∷ es) o = let i = order_end e.to end es o.1.1 in omega (arith, i, o.0, o.1.0)

ending_none : (at end n : ℕ) (es : List Edit) → InOrder at end es → n < at → ending es n ≡ []
unfolding InOrder
ending_none at end n [] o l = refl
ending_none at end n (e ∷ es) o l =
    let f : (e.to == n) ≡ false = grind (arith, nat_tests, o.0, o.1.0, l) in
    rw f (ending_none e.to end n es o.1.1 (omega (arith, o.0, o.1.0, l)))

covered_none : (at end k : ℕ) (es : List Edit) → InOrder at end es → k < at → list_any (covers k) es ≡ false
unfolding InOrder
covered_none at end k [] o l = refl
covered_none at end k (e ∷ es) o l =
    let f : nat_le e.from k ≡ false = grind (arith, nat_tests, o.0, l) in
    rw f (covered_none e.to end k es o.1.1 (omega (arith, o.0, o.1.0, l)))

pub edited_on : (at : ℕ) (bs : List ℕ) (e : Edit) (es : List Edit) → edited at bs (e ∷ es) ≡ take (e.from - at) bs ++ (e.text ++ edited e.to (drop (e.to - at) bs) es)
unfolding edited
edited_on at bs e es = refl

edited_none : (at : ℕ) (bs : List ℕ) → edited at bs [] ≡ bs
unfolding edited
edited_none at bs = refl

unmarked : (at : ℕ) (bs : List ℕ) → marked (in_text []) at bs ≡ bs
unmarked at [] = refl
unmarked at (b ∷ bs) = ap (λ (xs : List ℕ). b ∷ xs) (unmarked (at + 1) bs)

-- ---- one edit

-- it ends here and replaces nothing of what is left
passed_edit : (at : ℕ) (bs : List ℕ) (e : Edit) (es : List Edit) → e.to ≤ at → marked (in_text (e ∷ es)) at bs ≡ marked (in_text es) at bs
passed_edit at bs e es l = marked_alike (in_text (e ∷ es)) (in_text es) at bs (λ k a u.
    let f : nat_lt k e.to ≡ false = grind (arith, nat_tests, a, l) in
    let g : (e.to == k + 1) ≡ false = grind (arith, nat_tests, a, l) in
    (gone k f, put k g))
  where
    gone : (k : ℕ) → nat_lt k e.to ≡ false → (covers k e || list_any (covers k) es) ≡ list_any (covers k) es
    gone k f = elim (cases_Bool (nat_le e.from k)) [
      | inl t ↦ rw (t, f) refl
      | inr t ↦ rw t refl
    ]

    put : (k : ℕ) → (e.to == k + 1) ≡ false → ending (e ∷ es) (k + 1) ≡ ending es (k + 1)
    put k g = rw g refl

-- it begins here, or a byte further on
abbrev shorter : ℕ → Edit → Edit
shorter at e = record { from = at; to = e.to; text = e.text }

shorter_same : (at : ℕ) (bs : List ℕ) (e : Edit) (es : List Edit) → e.from ≤ at → marked (in_text (shorter at e ∷ es)) at bs ≡ marked (in_text (e ∷ es)) at bs
shorter_same at bs e es l = marked_alike (in_text (shorter at e ∷ es)) (in_text (e ∷ es)) at bs (λ k a u.
    let f : nat_le e.from k ≡ true = grind (arith, nat_tests, a, l) in
    let g : nat_le at k ≡ true = grind (arith, nat_tests, a) in
    (rw (f, g) refl, refl))

-- no edit begins before the next byte
later_byte : (at b : ℕ) (bs : List ℕ) (es : List Edit) (end : ℕ) → InOrder (at + 1) end es → ending es at ++ marked (in_text es) at (b ∷ bs) ≡ b ∷ (ending es (at + 1) ++ marked (in_text es) (at + 1) bs)
later_byte at b bs es end o =
    let f = ending_none (at + 1) end at es o (omega arith) in
    let g = covered_none (at + 1) end at es o (omega arith) in
    rw (f, g) refl

abbrev Scans : ℕ → List ℕ → List Edit → Type 0
Scans at bs es = edited at bs es ≡ ending es at ++ marked (in_text es) at bs

here_edit : (at : ℕ) (bs : List ℕ) (e : Edit) (es : List Edit) → e.from ≡ at → e.to ≡ at → Scans at bs es → Scans at bs (e ∷ es)
here_edit at bs e es a b i =
    let f : e.from - at ≡ 0 = omega (arith, a) in
    let g : e.to - at ≡ 0 = omega (arith, b) in
    let t : (e.to == at) ≡ true = grind (arith, nat_tests, b) in
    let h : edited e.to (drop (e.to - at) bs) es ≡ edited at bs es = rw (g, b) refl in
    let left : edited at bs (e ∷ es) ≡ e.text ++ (ending es at ++ marked (in_text es) at bs) = edited_on at bs e es ∙ (rw (f, h) (ap (λ (xs : List ℕ). e.text ++ xs) i)) in
    let right : ending (e ∷ es) at ++ marked (in_text (e ∷ es)) at bs ≡ (e.text ++ ending es at) ++ marked (in_text es) at bs =
    rw t (ap (λ (xs : List ℕ). (e.text ++ ending es at) ++ xs) (passed_edit at bs e es (omega (arith, b)))) in
    left ∙ sym (right ∙ append_assoc e.text (ending es at) (marked (in_text es) at bs))

next_drop : (n at b : ℕ) (bs : List ℕ) → at < n → drop (n - at) (b ∷ bs) ≡ drop (n - (at + 1)) bs
next_drop n at b bs l = let e : n - at ≡ suc (n - (at + 1)) = omega (arith, l) in ap (λ (k : ℕ). drop k (b ∷ bs)) e

next_take : (n at b : ℕ) (bs : List ℕ) → at < n → take (n - at) (b ∷ bs) ≡ b ∷ take (n - (at + 1)) bs
next_take n at b bs l = let e : n - at ≡ suc (n - (at + 1)) = omega (arith, l) in ap (λ (k : ℕ). take k (b ∷ bs)) e

behind_edit : (at b : ℕ) (bs : List ℕ) (e : Edit) (es : List Edit) (end : ℕ) → InOrder (at + 1) end (e ∷ es) → Scans (at + 1) bs (e ∷ es) → Scans at (b ∷ bs) (e ∷ es)
behind_edit at b bs e es end o i =
    let p = order_parts (at + 1) end e es o in
    let t = next_take e.from at b bs (omega (arith, p.0)) in
    let d = next_drop e.to at b bs (omega (arith, p.0, p.1.0)) in
    let left : edited at (b ∷ bs) (e ∷ es) ≡ b ∷ edited (at + 1) bs (e ∷ es) = edited_on at (b ∷ bs) e es ∙ (rw (t, d) refl ∙ ap (λ (xs : List ℕ). b ∷ xs) (sym (edited_on (at + 1) bs e es))) in
    left ∙ (ap (λ (xs : List ℕ). b ∷ xs) i ∙ sym (later_byte at b bs (e ∷ es) end o))

over_edit : (at b : ℕ) (bs : List ℕ) (e : Edit) (es : List Edit) (end : ℕ) → e.from ≡ at → at < e.to → InOrder e.to end es → Scans (at + 1) bs (shorter (at + 1) e ∷ es) → Scans at (b ∷ bs) (e ∷ es)
over_edit at b bs e es end a l o i =
    let f : e.from - at ≡ 0 = omega (arith, a) in
    let d = next_drop e.to at b bs l in
    let z : at + 1 - (at + 1) ≡ 0 = omega arith in
    let rest : List ℕ = e.text ++ edited e.to (drop (e.to - (at + 1)) bs) es in
    let one : edited at (b ∷ bs) (e ∷ es) ≡ rest = edited_on at (b ∷ bs) e es ∙ rw (f, d) refl in
    let two : edited (at + 1) bs (shorter (at + 1) e ∷ es) ≡ rest = edited_on (at + 1) bs (shorter (at + 1) e) es ∙ rw z refl in
    let left : edited at (b ∷ bs) (e ∷ es) ≡ edited (at + 1) bs (shorter (at + 1) e ∷ es) = one ∙ sym two in
    let same : ending (e ∷ es) (at + 1) ++ marked (in_text (shorter (at + 1) e ∷ es)) (at + 1) bs ≡ ending (e ∷ es) (at + 1) ++ marked (in_text (e ∷ es)) (at + 1) bs =
    ap (λ (xs : List ℕ). ending (e ∷ es) (at + 1) ++ xs) (shorter_same (at + 1) bs e es (omega (arith, a))) in
    let q : (e.to == at) ≡ false = grind (arith, nat_tests, l) in
    let r : nat_le e.from at ≡ true = grind (arith, nat_tests, a) in
    let s : nat_lt at e.to ≡ true = grind (arith, nat_tests, l) in
    let n : ending es at ≡ [] = ending_none e.to end at es o l in
    let none : ending (e ∷ es) at ≡ [] = rw (q, n) refl in
    let gone : list_any (covers at) (e ∷ es) ≡ true = rw (r, s) refl in
    let right : ending (e ∷ es) at ++ marked (in_text (e ∷ es)) at (b ∷ bs) ≡ ending (e ∷ es) (at + 1) ++ marked (in_text (e ∷ es)) (at + 1) bs =
    ap (λ (xs : List ℕ). xs ++ marked (in_text (e ∷ es)) at (b ∷ bs)) none ∙ ap (λ (x : Bool). ((if x then [] else b ∷ []) ++ ending (e ∷ es) (at + 1)) ++ marked (in_text (e ∷ es)) (at + 1) bs) gone in
    left ∙ (i ∙ (same ∙ sym right))

-- ---- all edits

scans_none : (at end : ℕ) (es : List Edit) → InOrder at end es → end ≡ at → Scans at [] es
scans_none at end [] o l = edited_none at []
scans_none at end (e ∷ es) o l =
    let p = order_parts at end e es o in
    let q = order_end e.to end es p.1.1 in
    let a : e.from ≡ at = omega (arith, p.0, p.1.0, q, l) in
    let b : e.to ≡ at = omega (arith, p.0, p.1.0, q, l) in
    let o2 : InOrder at end es = subst (λ (n : ℕ). InOrder n end es) b p.1.1 in
    here_edit at [] e es a b (scans_none at end es o2 l)

scans_byte : (at b end : ℕ) (bs : List ℕ) (es : List Edit) → ((fs : List Edit) → InOrder (at + 1) end fs → Scans (at + 1) bs fs) → InOrder at end es → Scans at (b ∷ bs) es
scans_byte at b end bs [] f o = edited_none at (b ∷ bs) ∙ sym (unmarked at (b ∷ bs))
scans_byte at b end bs (e ∷ es) f o =
    let p = order_parts at end e es o in
    elim (cases_lt at e.from) [
      | inl l ↦ let o2 = order_on at (at + 1) end e es o (omega (arith, l)) in behind_edit at b bs e es end o2 (f (e ∷ es) o2)
      | inr l ↦
          let a : e.from ≡ at = omega (arith, l, p.0) in
          elim (cases_lt at e.to) [
            | inl u ↦ over_edit at b bs e es end a u p.1.1 (f (shorter (at + 1) e ∷ es) (order_make (at + 1) end (shorter (at + 1) e) es (omega arith) (omega (arith, u)) p.1.1))
            | inr u ↦
                let c : e.to ≡ at = omega (arith, u, p.1.0, a) in
                let o2 : InOrder at end es = subst (λ (n : ℕ). InOrder n end es) c p.1.1 in
                here_edit at (b ∷ bs) e es a c (scans_byte at b end bs es f o2)
          ]
    ]

pub scans : (at end : ℕ) (bs : List ℕ) (es : List Edit) → end ≡ at + length bs → InOrder at end es → Scans at bs es
scans at end [] es l o = scans_none at end es o (omega (arith, l))
scans at end (b ∷ bs) es l o = scans_byte at b end bs es (λ fs p. scans (at + 1) end bs fs (omega (arith, l)) p) o
