-- The order, the way down and the cycle.
use Rattle.std.proofs.Common.{◌≡◌, ℕ, zero, suc, ◌+◌, ◌≤◌, ◌<◌, ◌⊎◌, List, [], ◌∷◌, ◌++◌, length, get_or, set, take, drop, map, refl, ap, subst, ◌∙◌, sym, arith, Bool, true, false, inl, inr, length-append}
use Rattle.std.proofs.lemmas.Bool.{cases_eq, cases_lt, cases_order, both_ways, ne_eqb, eqb-true, or_cases}
use Rattle.std.proofs.lemmas.List.{get_or-set_other, get_or-set_same, length-set, length-take-le, get_or-map, length-map}
use Rattle.std.specs.Prelude.{Vec}
use Rattle.std.specs.declared.alloc.Global.{Global}
use Rattle.std.proofs.lemmas.Map.Steps.{length-le_from_distinct_below}
use Rattle.std.specs.List.{AllByRecursion, IsDistinct, list_any}
use Rattle.std.specs.Prelude.{eqb}
use Rattle.std.proofs.Common.{drop-cons, length-drop}
use Rattle.rr_sort.specs.Graphs.{Graph, named, Names, IsGraph, IsOrder, Chain, IsCycle, OnCycle, IsRanked, names_of}
use Rattle.rr_sort.specs.Walks.{IsPlaced, IsWalk, Grown, IsSeen, IsStacked, IsDown, IsBetween}

falls : (g : Graph) (rank : ℕ → ℕ) → IsRanked g rank → (u : ℕ) (vs : List ℕ) (t : ℕ) → Chain g u vs t → rank t < rank u
falls g rank r u [] t h = r u t h
falls g rank r u (v ∷ vs) t h = omega (arith, r u v h.0, falls g rank r v vs t h.1)

pub no_ranks : (g : Graph) (cycle : List ℕ) (rank : ℕ → ℕ) → IsCycle g cycle → IsRanked g rank → ⊥
no_ranks g [] rank h r = h
no_ranks g (c ∷ cs) rank h r = omega (arith, falls g rank r c cs c h)

named_past : (g : Graph) (v : ℕ) → length g ≤ v → get_or g v [] ≡ []
named_past [] v l = refl
named_past (x ∷ xs) zero l = absurd (omega arith)
named_past (x ∷ xs) (suc v) l = named_past xs v (omega arith)

pub place : (g : Graph) (order : List ℕ) → IsOrder g order → ℕ → ℕ
place g order h v = elim (cases_lt v (length g)) [ inl l ↦ (h.each v l).0 | inr l ↦ 0 ]

place-is : (g : Graph) (order : List ℕ) (h : IsOrder g order) (v : ℕ) → v < length g → (place g order h v < length order) × (get_or order (place g order h v) 0 ≡ v)
unfolding place
place-is g order h v l = elim (cases_lt v (length g)) as (λ d. (elim d as (λ _. ℕ) [ inl l ↦ (h.each v l).0 | inr l ↦ 0 ] < length order) × (get_or order (elim d as (λ _. ℕ) [ inl l ↦ (h.each v l).0 | inr l ↦ 0 ]) 0 ≡ v)) [
  | inl m ↦ ((h.each v m).1.0, (h.each v m).1.1)
  | inr m ↦ absurd (omega arith)
]

pub name_inside : (g : Graph) (v w : ℕ) → Names g v w → v < length g
name_inside g v w n = elim (cases_lt v (length g)) [ inl l ↦ l | inr l ↦ absurd (omega (arith, n.1.0, ap length (named_past g v l))) ]

pub order_ranks : (g : Graph) (order : List ℕ) → IsGraph g → (h : IsOrder g order) → IsRanked g (place g order h)
order_ranks g order i h = λ v w n.
    let a = place-is g order h v (name_inside g v w n) in
    let b = place-is g order h w (i v w n) in
    h.after (place g order h w) (place g order h v) b.0 a.0 (rw (a.1, b.1) n)

pub get_old : {A : Type 0} → (xs : List A) (y d : A) (i : ℕ) → i < length xs → get_or (xs ++ y ∷ []) i d ≡ get_or xs i d
get_old [] y d i l = absurd (omega arith)
get_old (x ∷ xs) y d zero l = refl
get_old (x ∷ xs) y d (suc i) l = get_old xs y d i (omega arith)

pub get_new : {A : Type 0} → (xs : List A) (y d : A) (i : ℕ) → i ≡ length xs → get_or (xs ++ y ∷ []) i d ≡ y
get_new [] y d zero l = refl
get_new [] y d (suc i) l = absurd (omega arith)
get_new (x ∷ xs) y d zero l = absurd (omega arith)
get_new (x ∷ xs) y d (suc i) l = get_new xs y d i (omega arith)

pub get_take : (xs : List ℕ) (k i : ℕ) → i < k → get_or (take k xs) i 0 ≡ get_or xs i 0
get_take xs zero i l = absurd (omega arith)
get_take [] (suc k) i l = refl
get_take (x ∷ xs) (suc k) zero l = refl
get_take (x ∷ xs) (suc k) (suc i) l = get_take xs k i (omega arith)

get_drop : (xs : List ℕ) (i j : ℕ) → get_or (drop i xs) j 0 ≡ get_or xs (i + j) 0
get_drop xs zero j = ap (λ (k : ℕ). get_or xs k 0) (omega arith)
get_drop [] (suc i) j = refl
get_drop (x ∷ xs) (suc i) j = let s : suc i + j ≡ suc (i + j) = omega arith in rw s (get_drop xs i j)

pub length_push : (xs : List ℕ) (y : ℕ) → length (xs ++ y ∷ []) ≡ suc (length xs)
length_push xs y = omega (arith, length-append xs (y ∷ []))

pub walk_push : (g : Graph) (placed : List Bool) (stack : List ℕ) (w : ℕ) → IsWalk g placed stack → w < length g → get_or placed w false ≡ false →
    ((i : ℕ) → i < length stack → get_or stack i 0 ≡ w → ⊥) → ((n : ℕ) → suc n ≡ length stack → Names g (get_or stack n 0) w) → IsWalk g placed (stack ++ w ∷ [])
walk_push g placed stack w h l u a n =
    let p = length_push stack w in
    record {
      inside = λ i m. elim (cases_lt i (length stack)) [
        | inl q ↦ rw (get_old stack w 0 i q) (h.inside i q)
        | inr q ↦ rw (get_new stack w 0 i (omega (arith, p, m))) l
      ];
      unplaced = λ i m. elim (cases_lt i (length stack)) [
        | inl q ↦ rw (get_old stack w 0 i q) (h.unplaced i q)
        | inr q ↦ rw (get_new stack w 0 i (omega (arith, p, m))) u
      ];
      apart = λ i j o m e. elim (cases_lt j (length stack)) [
        | inl q ↦ h.apart i j o q (sym (get_old stack w 0 i (omega arith)) ∙ e ∙ get_old stack w 0 j q)
        | inr q ↦ a i (omega (arith, p, m)) (sym (get_old stack w 0 i (omega (arith, p, m))) ∙ e ∙ get_new stack w 0 j (omega (arith, p, m)))
      ];
      walk = λ i m. elim (cases_lt (i + 1) (length stack)) [
        | inl q ↦ rw (get_old stack w 0 i (omega arith), get_old stack w 0 (i + 1) q) (h.walk i q)
        | inr q ↦ rw (get_old stack w 0 i (omega (arith, p, m)), get_new stack w 0 (i + 1) (omega (arith, p, m))) (n i (omega (arith, p, m)))
      ];
    }

pub not_both : (b : Bool) → b ≡ true → b ≡ false → ⊥
not_both b t f = both_ways b f t

pub walk_pop : (g : Graph) (placed : List Bool) (stack : List ℕ) (k : ℕ) → IsWalk g placed stack → suc k ≡ length stack → IsWalk g (set placed (get_or stack k 0) true) (take k stack)
walk_pop g placed stack k h e =
    let t : length (take k stack) ≡ k = length-take-le k stack (omega arith) in
    record {
      inside = λ i m. rw (get_take stack k i (omega (arith, t, m))) (h.inside i (omega (arith, t, m)));
      unplaced = λ i m. rw (get_take stack k i (omega (arith, t, m)), get_or-set_other placed (get_or stack k 0) (get_or stack i 0) true false (h.apart i k (omega (arith, t, m)) (omega arith))) (h.unplaced i (omega (arith, t, m)));
      apart = λ i j o m q. h.apart i j o (omega (arith, t, m)) (sym (get_take stack k i (omega (arith, t, m))) ∙ q ∙ get_take stack k j (omega (arith, t, m)));
      walk = λ i m. rw (get_take stack k i (omega (arith, t, m)), get_take stack k (i + 1) (omega (arith, t, m))) (h.walk i (omega (arith, t, m)));
    }

pub grown_set : (placed : List Bool) (v : ℕ) → v < length placed → Grown placed (set placed v true)
grown_set placed v l = λ w h. elim (cases_eq w v) [
  | inl q ↦ rw (q, get_or-set_same placed v true false l) refl
  | inr q ↦ rw (get_or-set_other placed v w true false q) h
]

pub place_push : (g : Graph) (order : List ℕ) (placed : List Bool) (v : ℕ) → IsPlaced g order placed → v < length g → get_or placed v false ≡ false →
    ((w : ℕ) → Names g v w → get_or placed w false ≡ true) → IsPlaced g (order ++ v ∷ []) (set placed v true)
place_push g order placed v h l u n =
    let p = length_push order v in
    let m : v < length placed = omega (arith, h.count) in
    record {
      count = length-set placed v true ∙ h.count;
      inside = λ i o. elim (cases_lt i (length order)) [
        | inl q ↦ rw (get_old order v 0 i q) (h.inside i q)
        | inr q ↦ rw (get_new order v 0 i (omega (arith, p, o))) l
      ];
      marked = λ w t. elim (cases_eq w v) [
        | inl q ↦ (length order, (omega (arith, p), get_new order v 0 (length order) refl ∙ sym q))
        | inr q ↦ let r = h.marked w (sym (get_or-set_other placed v w true false q) ∙ t) in (r.0, (omega (arith, p, r.1.0), get_old order v 0 r.0 r.1.0 ∙ r.1.1))
      ];
      marks = λ i o. elim (cases_lt i (length order)) [
        | inl q ↦ rw (get_old order v 0 i q) (grown_set placed v m (get_or order i 0) (h.marks i q))
        | inr q ↦ rw (get_new order v 0 i (omega (arith, p, o)), get_or-set_same placed v true false m) refl
      ];
      once = λ i j o k e. elim (cases_lt j (length order)) [
        | inl q ↦ h.once i j o q (sym (get_old order v 0 i (omega arith)) ∙ e ∙ get_old order v 0 j q)
        | inr q ↦
            let s : get_or order i 0 ≡ v = sym (get_old order v 0 i (omega (arith, p, k))) ∙ e ∙ get_new order v 0 j (omega (arith, p, k)) in
            not_both (get_or placed v false) (ap (λ (x : ℕ). get_or placed x false) (sym s) ∙ h.marks i (omega (arith, p, k))) u
      ];
      closed = λ j w o k. elim (cases_lt j (length order)) [
        | inl q ↦ let r = h.closed j w q (rw (get_old order v 0 j q) at k) in (r.0, (r.1.0, get_old order v 0 r.0 (omega (arith, r.1.0)) ∙ r.1.1))
        | inr q ↦
            let r = h.marked w (n w (rw (get_new order v 0 j (omega (arith, p, o))) at k)) in
            (r.0, (omega (arith, r.1.0), get_old order v 0 r.0 r.1.0 ∙ r.1.1))
      ];
    }

pub chain_from : (g : Graph) (u : ℕ) (xs : List ℕ) (t : ℕ) → ((j : ℕ) → j + 1 < length (u ∷ xs) → Names g (get_or (u ∷ xs) j 0) (get_or (u ∷ xs) (j + 1) 0)) →
    Names g (get_or (u ∷ xs) (length xs) 0) t → Chain g u xs t
chain_from g u [] t w n = n
chain_from g u (x ∷ xs) t w n = (w 0 (omega arith), chain_from g x xs t (λ j l. let s : suc j + 1 ≡ suc (j + 1) = omega arith in rw s at (w (suc j) (omega arith))) n)

pub cycle_of : (g : Graph) (placed : List Bool) (stack : List ℕ) (k i w : ℕ) → IsWalk g placed stack → suc k ≡ length stack → i < length stack → get_or stack i 0 ≡ w → Names g (get_or stack k 0) w → IsCycle g (drop i stack)
cycle_of g placed stack k i w h e l q n =
    let d : drop i stack ≡ get_or stack i 0 ∷ drop (suc i) stack = drop-cons stack i 0 l in
    let c : Chain g (get_or stack i 0) (drop (suc i) stack) (get_or stack i 0) =
    chain_from g (get_or stack i 0) (drop (suc i) stack) (get_or stack i 0)
    (λ j m. rw (← d, get_drop stack i j, get_drop stack i (j + 1)) (let s : i + (j + 1) ≡ (i + j) + 1 = omega arith in rw s (h.walk (i + j) (omega (arith, m, length-drop (suc i) stack)))))
    (rw (← d, get_drop stack i (length (drop (suc i) stack)), q) (let s : i + length (drop (suc i) stack) ≡ k = omega (arith, length-drop (suc i) stack) in rw s n)) in
    rw d c

pub cycle_on : (g : Graph) (placed : List Bool) (stack : List ℕ) (k i w : ℕ) → IsWalk g placed stack → suc k ≡ length stack → i < length stack → get_or stack i 0 ≡ w → Names g (get_or stack k 0) w → (v : ℕ) × OnCycle g v
cycle_on g placed stack k i w h e l q n = first (drop i stack) (cycle_of g placed stack k i w h e l q n)
  where
    first : (cs : List ℕ) → IsCycle g cs → (v : ℕ) × OnCycle g v
    first [] c = absurd c
    first (c ∷ cs) h = (c, (cs, h))

all_from : (x : ℕ) (xs : List ℕ) → ((j : ℕ) → j < length xs → x ≡ get_or xs j 0 → ⊥) → AllByRecursion (λ y. eqb x y ≡ false) xs
all_from x [] h = tt
all_from x (y ∷ ys) h = (ne_eqb x y (h 0 (omega arith)), all_from x ys (λ j l. h (suc j) (omega arith)))

distinct : (xs : List ℕ) → ((i j : ℕ) → i < j → j < length xs → get_or xs i 0 ≡ get_or xs j 0 → ⊥) → IsDistinct eqb xs
unfolding IsDistinct
distinct [] h = tt
distinct (x ∷ xs) h = (all_from x xs (λ j l. h 0 (suc j) (omega arith) (omega arith)), distinct xs (λ i j o l. h (suc i) (suc j) (omega arith) (omega arith)))

below_from : (n : ℕ) (xs : List ℕ) → ((i : ℕ) → i < length xs → get_or xs i 0 < n) → (q : ℕ) → list_any (eqb q) xs ≡ true → q < n
below_from n [] h q e = absurd (both_ways false refl e)
below_from n (x ∷ xs) h q e = elim (or_cases (eqb q x) (list_any (eqb q) xs) e) [
  | inl t ↦ let k = eqb-true q x t in let m = h 0 (omega arith) in omega arith
  | inr t ↦ below_from n xs (λ i l. h (suc i) (omega arith)) q t
]

pub few : (n : ℕ) (xs : List ℕ) → ((i : ℕ) → i < length xs → get_or xs i 0 < n) → ((i j : ℕ) → i < j → j < length xs → get_or xs i 0 ≡ get_or xs j 0 → ⊥) → length xs ≤ n
few n xs b a = length-le_from_distinct_below xs n (distinct xs a) (below_from n xs b)

pub finished : (g : Graph) (order : List ℕ) (placed : List Bool) → IsPlaced g order placed → ((v : ℕ) → v < length g → get_or placed v false ≡ true) → IsOrder g order
finished g order placed h a = record {
  each = λ v l. h.marked v (a v l);
  inside = h.inside;
  once = λ i j l m e. elim (cases_order i j) [ inl q ↦ q | inr q ↦ elim q [ inl o ↦ absurd (h.once i j o m e) | inr o ↦ absurd (h.once j i o l (sym e)) ] ];
  after = λ i j l m n.
      let r = h.closed j (get_or order i 0) m n in
      elim (cases_eq r.0 i) [
        | inl q ↦ omega (arith, r.1.0, q)
        | inr q ↦ elim (cases_order r.0 i) [
          | inl s ↦ absurd (q s)
          | inr s ↦ elim s [ inl o ↦ absurd (h.once r.0 i o l r.1.1) | inr o ↦ absurd (h.once i r.0 o (omega (arith, r.1.0)) (sym r.1.1)) ]
        ]
      ];
}

pub top_is : (xs : List ℕ) (k x : ℕ) → k < length xs → x ≡ get_or xs k x → get_or xs k 0 ≡ x
top_is xs k x l e = get_same xs k 0 x l ∙ sym e
  where
    get_same : (ys : List ℕ) (i d f : ℕ) → i < length ys → get_or ys i d ≡ get_or ys i f
    get_same [] i d f m = absurd (omega arith)
    get_same (y ∷ ys) zero d f m = refl
    get_same (y ∷ ys) (suc i) d f m = get_same ys i d f (omega arith)

pub named_is : (vs : List (Vec ℕ Global)) (k : ℕ) (x : Vec ℕ Global) → k < length vs → x ≡ get_or vs k x → get_or (map names_of vs) k [] ≡ x.items
named_is vs k x l e = get_or-map names_of vs k x [] l ∙ ap names_of (sym e)

pub graph_count : (vs : List (Vec ℕ Global)) → length (map names_of vs) ≡ length vs
graph_count vs = length-map vs names_of

pub name_at : (g : Graph) (v : ℕ) (xs : List ℕ) (i w : ℕ) → get_or g v [] ≡ xs → i < length xs → get_or xs i 0 ≡ w → Names g v w
name_at g v xs i w e l q = (i, (rw e l, rw e q))

-- the names that have been looked at

pub seen_grown : (g : Graph) (old new : List Bool) (seen : List ℕ) → Grown old new → IsSeen g old seen → IsSeen g new seen
seen_grown g old new seen h s = record { count = s.count; low = s.low; done = λ v i l. h (get_or (named g v) i 0) (s.done v i l) }

pub seen_set : (g : Graph) (placed : List Bool) (seen : List ℕ) (v n : ℕ) → v < length g → IsSeen g placed seen → n ≤ length (named g v)
    → ((i : ℕ) → get_or seen v 0 ≤ i → i < n → get_or placed (get_or (named g v) i 0) false ≡ true) → IsSeen g placed (set seen v n)
seen_set g placed seen v n l s m h = record {
  count = length-set seen v n ∙ s.count;
  low = λ w. elim (cases_eq w v) [
    | inl q ↦ rw (q, get_or-set_same seen v n 0 (omega (arith, s.count))) m
    | inr q ↦ rw (get_or-set_other seen v w n 0 q) (s.low w)
  ];
  done = λ w i k. elim (cases_eq w v) [
    | inl q ↦
        let e : get_or (set seen v n) w 0 ≡ n = ap (λ (u : ℕ). get_or (set seen v n) u 0) q ∙ get_or-set_same seen v n 0 (omega (arith, s.count)) in
        let a : get_or placed (get_or (named g v) i 0) false ≡ true = elim (cases_lt i (get_or seen v 0)) [ inl o ↦ s.done v i o | inr o ↦ h i o (omega (arith, e, k)) ] in
        ap (λ (u : ℕ). get_or placed (get_or (named g u) i 0) false) q ∙ a
    | inr q ↦ s.done w i (rw (get_or-set_other seen v w n 0 q) at k)
  ];
}

-- the marks of the stack

pub stacked_push : (g : Graph) (stacked : List Bool) (stack : List ℕ) (w : ℕ) → w < length g → IsStacked g stacked stack → IsStacked g (set stacked w true) (stack ++ w ∷ [])
stacked_push g stacked stack w l s =
    let p = length_push stack w in
    let m : w < length stacked = omega (arith, s.count) in
    record {
      count = length-set stacked w true ∙ s.count;
      marks = λ i o. elim (cases_lt i (length stack)) [
        | inl q ↦ rw (get_old stack w 0 i q) (grown_set stacked w m (get_or stack i 0) (s.marks i q))
        | inr q ↦ rw (get_new stack w 0 i (omega (arith, p, o)), get_or-set_same stacked w true false m) refl
      ];
      marked = λ v t. elim (cases_eq v w) [
        | inl q ↦ (length stack, (omega (arith, p), get_new stack w 0 (length stack) refl ∙ sym q))
        | inr q ↦ let r = s.marked v (sym (get_or-set_other stacked w v true false q) ∙ t) in (r.0, (omega (arith, p, r.1.0), get_old stack w 0 r.0 r.1.0 ∙ r.1.1))
      ];
    }

pub stacked_pop : (g : Graph) (placed : List Bool) (stacked : List Bool) (stack : List ℕ) (k : ℕ) → IsWalk g placed stack → suc k ≡ length stack → IsStacked g stacked stack
    → IsStacked g (set stacked (get_or stack k 0) false) (take k stack)
stacked_pop g placed stacked stack k h e s =
    let t : length (take k stack) ≡ k = length-take-le k stack (omega arith) in
    let top : ℕ = get_or stack k 0 in
    record {
      count = length-set stacked top false ∙ s.count;
      marks = λ i o.
          let n : get_or stack i 0 ≡ top → ⊥ = h.apart i k (omega (arith, t, o)) (omega arith) in
          rw (get_take stack k i (omega (arith, t, o)), get_or-set_other stacked top (get_or stack i 0) false false n) (s.marks i (omega (arith, t, o)));
      marked = λ v u. elim (cases_eq v top) [
        | inl q ↦
            let z : get_or (set stacked top false) v false ≡ false = ap (λ (x : ℕ). get_or (set stacked top false) x false) q ∙ get_or-set_same stacked top false false (omega (arith, s.count, h.inside k (omega arith))) in
            absurd (not_both (get_or (set stacked top false) v false) u z)
        | inr q ↦
            let r = s.marked v (sym (get_or-set_other stacked top v false false q) ∙ u) in
            elim (cases_eq r.0 k) [
              | inl o ↦ absurd (q (sym r.1.1 ∙ ap (λ (x : ℕ). get_or stack x 0) o))
              | inr o ↦ (r.0, (omega (arith, t, r.1.0), get_take stack k r.0 (omega (arith, r.1.0)) ∙ r.1.1))
            ]
      ];
    }

-- the way down

pub down_start : (g : Graph) (start : ℕ) (order : List ℕ) (placed : List Bool) (seen : List ℕ) (stacked : List Bool) → IsBetween g order placed seen stacked → start < length g → get_or placed start false ≡ false
    → IsDown g start placed order placed seen (set stacked start true) (start ∷ [])
down_start g start order placed seen stacked b l u = record {
  done = b.done;
  way = walk_push g placed [] start (record { inside = λ i m. absurd (omega arith); unplaced = λ i m. absurd (omega arith); apart = λ i j o m e. omega arith; walk = λ i m. absurd (omega arith) }) l u (λ i m e. omega arith) (λ n m. absurd (omega arith));
  looked = b.looked;
  on = stacked_push g stacked [] start l (record { count = b.count; marks = λ i m. absurd (omega arith); marked = λ v t. absurd (not_both (get_or stacked v false) t (b.none v)) });
  begins = λ m. refl;
  ends = λ m. absurd (omega arith);
  grown = λ v t. t;
}

pub down_pop : (g : Graph) (start : ℕ) (old : List Bool) (order : List ℕ) (placed : List Bool) (seen looked : List ℕ) (stacked : List Bool) (stack : List ℕ) (k top : ℕ) → IsDown g start old order placed seen stacked stack
    → suc k ≡ length stack → get_or stack k 0 ≡ top → IsSeen g placed looked → length (named g top) ≤ get_or looked top 0
    → IsDown g start old (order ++ top ∷ []) (set placed top true) looked (set stacked top false) (take k stack)
down_pop g start old order placed seen looked stacked stack k top h e q s d =
    let t : length (take k stack) ≡ k = length-take-le k stack (omega arith) in
    let l : top < length g = rw q at (h.way.inside k (omega arith)) in
    let m : top < length placed = omega (arith, l, h.done.count) in
    let u : get_or placed top false ≡ false = rw q at (h.way.unplaced k (omega arith)) in
    let all : (w : ℕ) → Names g top w → get_or placed w false ≡ true = λ w n. ap (λ (x : ℕ). get_or placed x false) (sym n.1.1) ∙ s.done top n.0 (omega (arith, n.1.0, d)) in
    record {
      done = place_push g order placed top h.done l u all;
      way = rw q at (walk_pop g placed stack k h.way e);
      looked = seen_grown g placed (set placed top true) looked (grown_set placed top m) s;
      on = rw q at (stacked_pop g placed stacked stack k h.way e h.on);
      begins = λ p. get_take stack k 0 (omega (arith, t, p)) ∙ h.begins (omega arith);
      ends = λ p.
          let z : k ≡ 0 = omega (arith, t, p) in
          let s : top ≡ start = sym q ∙ ap (λ (i : ℕ). get_or stack i 0) z ∙ h.begins (omega arith) in
          rw (← s) (get_or-set_same placed top true false m);
      grown = λ v p. grown_set placed top m v (h.grown v p);
    }

pub down_push : (g : Graph) (start : ℕ) (old : List Bool) (order : List ℕ) (placed : List Bool) (seen looked : List ℕ) (stacked : List Bool) (stack : List ℕ) (k w : ℕ) → IsDown g start old order placed seen stacked stack
    → suc k ≡ length stack → w < length g → get_or placed w false ≡ false → get_or stacked w false ≡ false → Names g (get_or stack k 0) w → IsSeen g placed looked
    → IsDown g start old order placed looked (set stacked w true) (stack ++ w ∷ [])
down_push g start old order placed seen looked stacked stack k w h e l u f n s = record {
  done = h.done;
  way = walk_push g placed stack w h.way l u (λ i m q. not_both (get_or stacked w false) (ap (λ (x : ℕ). get_or stacked x false) (sym q) ∙ h.on.marks i m) f) (λ m p. let q : m ≡ k = omega arith in rw q n);
  looked = s;
  on = stacked_push g stacked stack w l h.on;
  begins = λ p. get_old stack w 0 0 (omega arith) ∙ h.begins (omega arith);
  ends = λ p. absurd (omega (arith, p, length_push stack w));
  grown = h.grown;
}

pub down_cycle : (g : Graph) (start : ℕ) (old : List Bool) (order : List ℕ) (placed : List Bool) (seen : List ℕ) (stacked : List Bool) (stack : List ℕ) (k w : ℕ) → IsDown g start old order placed seen stacked stack
    → suc k ≡ length stack → get_or stacked w false ≡ true → Names g (get_or stack k 0) w → (v : ℕ) × OnCycle g v
down_cycle g start old order placed seen stacked stack k w h e f n =
    let r = h.on.marked w f in
    cycle_on g placed stack k r.0 w h.way e r.1.0 r.1.1 n

pub down_few : (g : Graph) (start : ℕ) (old : List Bool) (order : List ℕ) (placed : List Bool) (seen : List ℕ) (stacked : List Bool) (stack : List ℕ) → IsDown g start old order placed seen stacked stack → (length order ≤ length g) × (length stack ≤ length g)
down_few g start old order placed seen stacked stack h = (few (length g) order h.done.inside h.done.once, few (length g) stack h.way.inside h.way.apart)

pub down_done : (g : Graph) (start : ℕ) (old : List Bool) (order : List ℕ) (placed : List Bool) (seen : List ℕ) (stacked : List Bool) (stack : List ℕ) → length stack ≡ 0 → IsDown g start old order placed seen stacked stack
    → IsBetween g order placed seen stacked × (get_or placed start false ≡ true) × Grown old placed
down_done g start old order placed seen stacked stack e h = (
  record {
    done = h.done;
    looked = h.looked;
    count = h.on.count;
    none = λ v. elim (cases_true (get_or stacked v false)) [ inl t ↦ let r = h.on.marked v t in absurd (omega (arith, r.1.0, e)) | inr f ↦ f ];
  },
  h.ends e,
  h.grown,
)
  where
    cases_true : (b : Bool) → (b ≡ true) ⊎ (b ≡ false)
    cases_true true = inl refl
    cases_true false = inr refl

pub none_placed : (g : Graph) (placed : List Bool) → length placed ≡ length g → ((v : ℕ) → get_or placed v false ≡ false) → IsPlaced g [] placed
none_placed g placed e h = record {
  count = e;
  inside = λ i m. absurd (omega arith);
  marked = λ v t. absurd (not_both (get_or placed v false) t (h v));
  marks = λ i m. absurd (omega arith);
  once = λ i j o m q. omega arith;
  closed = λ j w m n. absurd (omega arith);
}

pub more_placed : (placed : List Bool) (k : ℕ) → ((v : ℕ) → v < k → get_or placed v false ≡ true) → get_or placed k false ≡ true → (v : ℕ) → v < k + 1 → get_or placed v false ≡ true
more_placed placed k h t v l = elim (cases_eq v k) [ inl q ↦ rw q t | inr q ↦ h v (omega arith) ]

pub between_start : (g : Graph) (placed : List Bool) (seen : List ℕ) (stacked : List Bool) → length placed ≡ length g → ((v : ℕ) → get_or placed v false ≡ false) → length seen ≡ length g → ((v : ℕ) → get_or seen v 0 ≡ 0)
    → length stacked ≡ length g → ((v : ℕ) → get_or stacked v false ≡ false) → IsBetween g [] placed seen stacked
between_start g placed seen stacked a b c d e f = record {
  done = none_placed g placed a b;
  looked = record { count = c; low = λ v. let z = d v in omega (arith, z); done = λ v i l. let z = d v in absurd (omega (arith, z, l)) };
  count = e;
  none = f;
}

-- rows

pub map_set : (vs : List (Vec ℕ Global)) (k : ℕ) (x : Vec ℕ Global) → map names_of (set vs k x) ≡ set (map names_of vs) k x.items
map_set [] k x = refl
map_set (v ∷ vs) zero x = refl
map_set (v ∷ vs) (suc k) x = ap (λ (ws : Graph). v.items ∷ ws) (map_set vs k x)

pub join_is : (vs : List (Vec ℕ Global)) (k to : ℕ) (x y : Vec ℕ Global) → k < length vs → x ≡ get_or vs k x → y.items ≡ x.items ++ to ∷ [] → map names_of (set vs k y) ≡ set (map names_of vs) k (named (map names_of vs) k ++ to ∷ [])
join_is vs k to x y l e q = map_set vs k y ∙ ap (λ (row : List ℕ). set (map names_of vs) k row) (q ∙ ap (λ (row : List ℕ). row ++ to ∷ []) (sym (named_is vs k x l e)))

pub join_graph : (g h : Graph) (from to : ℕ) → h ≡ set g from (named g from ++ to ∷ []) → from < length g → to < length g → IsGraph g → IsGraph h
join_graph g h from to e l m i = subst IsGraph (sym e) (λ v w n. elim (cases_eq v from) [
  | inl q ↦ omega (arith, length-set g from (named g from ++ to ∷ []), one w (rw (q, get_or-set_same g from (named g from ++ to ∷ []) [] l) at n))
  | inr q ↦ let n2 : Names g v w = rw (get_or-set_other g from v (named g from ++ to ∷ []) [] q) at n in omega (arith, length-set g from (named g from ++ to ∷ []), i v w n2)
])
  where
    one : (w : ℕ) → ((j : ℕ) × ((j < length (named g from ++ to ∷ [])) × (get_or (named g from ++ to ∷ []) j 0 ≡ w))) → w < length g
    one w (j, (k, q)) = elim (cases_lt j (length (named g from))) [
      | inl o ↦ i from w (j, (o, sym (get_old (named g from) to 0 j o) ∙ q))
      | inr o ↦ let z : to ≡ w = sym (get_new (named g from) to 0 j (omega (arith, length_push (named g from) to, k))) ∙ q in omega (arith, z, m)
    ]

pub mark_is : (bs : List Bool) (k : ℕ) (x : Bool) → k < length bs → x ≡ get_or bs k x → get_or bs k false ≡ x
mark_is [] k x l e = absurd (omega arith)
mark_is (b ∷ bs) zero x l e = sym e
mark_is (b ∷ bs) (suc k) x l e = mark_is bs k x (omega arith) e
