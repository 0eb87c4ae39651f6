-- marks, and the places that wait
use Rattle.std.proofs.Common.{◌≡◌, ◌≢◌, inl, inr, ℕ, ◌+◌, ◌<◌, ◌≤◌, ◌==◌, Bool, true, false, cond, List, [], ◌∷◌, ◌++◌, length, get_or, map, set, refl, sym, ◌∙◌, ap, subst, arith}
use Rattle.std.specs.Prelude.{All}
use Rattle.std.specs.List.Sorted.{IsPermutation}
use Rattle.std.proofs.lemmas.List.{get_or-map, get_or_past, get_or-set_same, get_or-set_other, length-map, map-set}
use Rattle.std.proofs.lemmas.List.Sorted.{sum_by_popped, sum_by_pushed}
use Rattle.std.proofs.lemmas.List.Sums.{sum_by-cons}
use Rattle.std.proofs.lemmas.List.Elements.{All-get_or, All-head, All-tail, All-contains, Contains-push, Contains-append_left}
use Rattle.std.proofs.lemmas.Bool.{cases_lt, cases_eq, eq-eqb, eqb-true, ne_eqb, false≢true}
use Rattle.rr_cnf.specs.Clauses.{Literal}
use Rattle.rr_derive.proofs.MarkLaws.{All-from_contains}
use Rattle.rr_trail.specs.Trails.{Entry, entry, lits}
use Rattle.rr_trail.proofs.EntryLaws.{length_lits, lit_at}
use Rattle.rr_analysis.specs.Analysis.{IsMarked, Marked}
use Rattle.rr_analysis.specs.Workspaces.{HaveOwnVars, IsPlaceOf, KeepsWalk, Meets, Met, PopsLast, StandsBelow, Waits, Work, copies, var_at}
use Rattle.rr_analysis.proofs.Walk.{Marked-none, Marked-push}

-- no stamp is newer than the newest
pub none_newer : (xs : List ℕ) (n : ℕ) → All (λ s. s ≤ n) xs → (v : ℕ) → IsMarked (map (λ s. s == n + 1) xs) v → ⊥
none_newer xs n low v m = elim (cases_lt v (length xs)) [
  | inl h ↦ (let e = eqb-true (get_or xs v 0) (n + 1) (sym (get_or-map (λ s. s == n + 1) xs v 0 false h) ∙ m) in
      let a = All-get_or (λ s. s ≤ n) xs v 0 h low in
      omega (arith, e, a))
  | inr h ↦ false≢true (sym (get_or_past (map (λ s. s == n + 1) xs) v false (omega (arith, h, length-map xs (λ s. s == n + 1)))) ∙ m)
]

pub marks_one : (xs : List ℕ) (n v : ℕ) → map (λ s. s == n) (set xs v n) ≡ set (map (λ s. s == n) xs) v true
marks_one xs n v = map-set (λ s. s == n) xs v n ∙ ap (set (map (λ s. s == n) xs) v) (eq-eqb n n refl)

-- copies
abbrev one : Bool → ℕ
one b = cond b 1 0

abbrev is : ℕ → ℕ → ℕ
is x j = cond (x == j) 1 0

copies_cons : (x : ℕ) (xs : List ℕ) (j : ℕ) → copies (x ∷ xs) j ≡ is x j + copies xs j
copies_cons x xs j = sum_by-cons (λ i. cond (i == j) 1 0) x xs

one_if_same : (x j : ℕ) → x ≡ j → is x j ≡ 1
one_if_same x j e = ap one (eq-eqb x j e)

none_if_other : (x j : ℕ) → (x ≡ j → ⊥) → is x j ≡ 0
none_if_other x j n = ap one (ne_eqb x j n)

-- what stands in the list has a copy
pub all_copies : (P : ℕ → Type 0) (xs : List ℕ) (j : ℕ) → All P xs → 1 ≤ copies xs j → P j
all_copies P [] j a h = absurd (omega arith)
all_copies P (x ∷ xs) j a h = elim (cases_eq x j) [
  | inl e ↦ subst P e (All-head P x xs a)
  | inr n ↦ all_copies P xs j (All-tail P x xs a) (let z = none_if_other x j n in let y = copies_cons x xs j in omega (arith, z, y))
]

pub Waits-none : (ls : List Literal) (k : ℕ) (seen : List Bool) → ((v : ℕ) → IsMarked seen v → ⊥) → Waits ls k seen []
Waits-none ls k seen n = record { each = λ j h m. absurd (n (var_at ls j) m); only = λ j h. absurd (omega arith) }

-- the marks of a variable that is marked once more
again : (s : List Bool) (v w : ℕ) → IsMarked s v → IsMarked (set s v true) w → IsMarked s w
again s v w m q = elim (cases_eq w v) [ inl e ↦ subst (IsMarked s) (sym e) m | inr e ↦ sym (get_or-set_other s v w true false e) ∙ q ]

stays : (s : List Bool) (v w : ℕ) → v < length s → IsMarked s w → IsMarked (set s v true) w
stays s v w h m = elim (cases_eq w v) [ inl e ↦ subst (IsMarked (set s v true)) (sym e) (get_or-set_same s v true false h) | inr e ↦ get_or-set_other s v w true false e ∙ m ]

-- one variable is marked
module _ (ls : List Literal) (old new : Work) (v : ℕ) (m : Meets ls old v new) (inside : v < length old.seen) (k : ℕ) (low : k ≤ length ls) (own : HaveOwnVars ls) where
  pub Waits-meet : StandsBelow ls k old.seen v → Waits ls k old.seen old.waiting → Waits ls k new.seen new.waiting
  Waits-meet stands w = elim m.waiting [
    | inl a ↦ subst (λ s. Waits ls k s new.waiting) (sym m.seen) (subst (Waits ls k (set old.seen v true)) (sym a.1) (record {
      each = λ j h q. w.each j h (again old.seen v (var_at ls j) a.0 q);
      only = λ j h. let o = w.only j h in (o.0, stays old.seen v (var_at ls j) inside o.1);
    }))
    | inr b ↦ elim stands [
      | inl y ↦ absurd (b.0 y)
      | inr y ↦ subst (λ s. Waits ls k s new.waiting) (sym m.seen) (new_place b.0 b.1.0 b.1.1.0 b.1.1.1 y.0 y.1.0 y.1.1)
    ]
  ]
    where
      new_place : (IsMarked old.seen v → ⊥) → (place : ℕ) → IsPlaceOf ls v place → IsPermutation (place ∷ old.waiting) new.waiting → (j : ℕ) → j < k → var_at ls j ≡ v → Waits ls k (set old.seen v true) new.waiting
      new_place fresh place is_place p j h e = record {
        each = λ i b q. elim (cases_eq i j) [
          | inl s ↦ (let z = one_if_same j i (sym s) in
              let none : copies old.waiting i ≡ 0 = elim (cases_lt 0 (copies old.waiting i)) [
                | inl y ↦ absurd (fresh (subst (IsMarked old.seen) (ap (var_at ls) s ∙ e) (w.only i (omega arith)).1))
                | inr y ↦ omega arith
              ] in
              let t = total i in omega (arith, z, none, t))
          | inr n ↦ (let z = none_if_other j i (λ x. n (sym x)) in
              let u : var_at ls i ≢ v = λ x. n (own i j (omega arith) (omega arith) (x ∙ sym e)) in
              let t = total i in
              let o = w.each i b (sym (get_or-set_other old.seen v (var_at ls i) true false u) ∙ q) in
              omega (arith, z, o, t))
        ];
        only = λ i b. elim (cases_eq i j) [
          | inl s ↦ (omega (arith, s), subst (IsMarked (set old.seen v true)) (sym (ap (var_at ls) s ∙ e)) (get_or-set_same old.seen v true false inside))
          | inr n ↦ (let z = none_if_other j i (λ x. n (sym x)) in
              let t = total i in
              let o = w.only i (omega (arith, z, t)) in
              (o.0, stays old.seen v (var_at ls i) inside o.1))
        ];
      }
        where
          at : place ≡ j
          at = is_place j (omega arith) e

          total : (i : ℕ) → copies new.waiting i ≡ is j i + copies old.waiting i
          total i = sum_by_pushed (λ x. cond (x == i) 1 0) j old.waiting new.waiting (subst (λ x. IsPermutation (x ∷ old.waiting) new.waiting) at p)

pub Met-none : (ls : List Literal) (w : Work) → Met ls w [] w
Met-none ls w = record { marked = Marked-none w.seen; waits = λ k a b c d. d }

pub Met-push : (ls : List Literal) (old now new : Work) (c : List Literal) (l : Literal) → l.var < length old.seen → Met ls old c now → Meets ls now l.var new → Met ls old (c ++ l ∷ []) new
Met-push ls old now new c l h m n = record {
  marked = subst (Marked old.seen (c ++ l ∷ [])) (sym n.seen) (Marked-push old.seen c now.seen l h m.marked);
  waits = λ k low own stand w.
      let before = m.waits k low own (All-from_contains (λ x. StandsBelow ls k old.seen x.var) c (λ x y. All-contains (λ x. StandsBelow ls k old.seen x.var) (c ++ l ∷ []) x stand (Contains-append_left c (l ∷ []) x y))) w in
      let last = All-contains (λ x. StandsBelow ls k old.seen x.var) (c ++ l ∷ []) l stand (Contains-push c l) in
      Waits-meet ls now new l.var n (omega (arith, h, m.marked.long)) k low own
      (elim last [ inl a ↦ inl (m.marked.kept l.var a) | inr b ↦ inr b ]) before;
}

-- the last place is taken
module _ (old new : Work) (p : ℕ) (m : PopsLast old p new) (ls : List Literal) (k : ℕ) (w : Waits ls k old.seen old.waiting) where
  total : (j : ℕ) → copies new.waiting j + is p j ≡ copies old.waiting j
  total j = sum_by_popped (λ x. cond (x == j) 1 0) p old.waiting new.waiting m.taken

  pub popped : (p < k) × IsMarked old.seen (var_at ls p)
  popped = w.only p (let t = total p in let z = one_if_same p p refl in omega (arith, t, z))

  -- above it nothing is marked
  pub none_between : (j : ℕ) → p < j → j < k → IsMarked old.seen (var_at ls j) → ⊥
  none_between j a b q =
      let t = total j in
      let z = none_if_other p j (λ e. omega (arith, e)) in
      let o = w.each j b q in
      let y = all_copies (λ i. i ≤ p) new.waiting j m.last (omega (arith, t, z, o)) in
      omega (arith, y)

  pub Waits-pop : Waits ls p new.seen new.waiting
  Waits-pop = subst (λ s. Waits ls p s new.waiting) (sym m.seen) (record {
    each = λ j b q. let t = total j in let z = none_if_other p j (λ e. omega (arith, e)) in let o = w.each j (let x = popped.0 in omega (arith, x)) q in omega (arith, t, z, o);
    only = λ j b.
        let t = total j in
        let o = w.only j (omega (arith, t)) in
        let y = all_copies (λ i. i ≤ p) new.waiting j m.last b in
        let n : j ≢ p = λ e. (let z = one_if_same p j (sym e) in let c = w.each j o.0 o.1 in omega (arith, z, t, c, b)) in
        (omega (arith, y, n), o.1);
  })

pub keeps_more : (a b c : Work) → KeepsWalk a b → KeepsWalk b c → KeepsWalk a c
keeps_more a b c m n = record { long = n.long ∙ m.long; top = n.top ∙ m.top }

-- what the watch tells of a place
pub place_is : (t : List Entry) (v p : ℕ) → ((k : ℕ) → k < length t → (entry t k).lit.var ≡ v → p ≡ k) → IsPlaceOf (lits t) v p
place_is t v p f j h e = let i : j < length t = omega (arith, h, length_lits t) in f j i (ap (λ (l : Literal). l.var) (sym (lit_at t j _ i)) ∙ e)
