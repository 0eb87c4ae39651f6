-- the joined journal derives from the formula
use Rattle.std.proofs.Common.{◌≡◌, ◌⊎◌, inl, inr, ℕ, suc, zero, ◌+◌, ◌-◌, ◌*◌, ◌^◌, ◌<◌, ◌≤◌, ◌==◌, Bool, true, false, cond, List, [], ◌∷◌, ◌++◌, length, get_or, map, take, refl, sym, ◌∙◌, ap, subst, arith}
use Rattle.std.specs.Prelude.{All, Contains, Option, Some, None, nat_lt}
use Rattle.std.specs.List.{find}
use Rattle.std.specs.Option.{option_map}
use Rattle.std.proofs.Math.Seq.{get_or-append_seam, take-append_seam}
use Rattle.std.proofs.lemmas.Bool.{cases_Bool, cases_lt, cases_order, cond-true, cond-false, eqb-true, eq-eqb, false_from_ne_true, ltb-true, both_ways}
use Rattle.std.proofs.lemmas.List.{get_or-map, get_or-take, get_or_append_left, get_or_past, length-map, length-take-le, length_push, take-append-le, take-map}
use Rattle.std.proofs.lemmas.List.Elements.{All-contains, All-get_or, All-map, Contains-append_cases, Contains-append_left, Contains-append_right, Contains-get_or, Contains-push, Contains-push_cases, filter_passes}
use Rattle.std.proofs.lemmas.Option.{slice_get_within}
use Rattle.rr_cnf.specs.Clauses.{Clauses, Literal, negated}
use Rattle.rr_derive.specs.Derive.{Derives, IsRising, Leads, Names, Passes, Refutes, Step}
use Rattle.rr_derive.specs.Fresh.{Fresh, Handed, NamesAtHand}
use Rattle.rr_derive.specs.Lrat.{AreHinted}
use Rattle.rr_derive.proofs.Few.{few}
use Rattle.rr_solver.specs.Searches.{NamesAll, PassesAfter, before, held_of, line}
use Rattle.rr_solver.specs.declared.engine.Status.TheVariants.{Running, Refuted}
use Rattle.rr_solver.proofs.Ends.{all_fresh}
use Rattle.rr_solver.proofs.LogSteps.{from_before}
use Rattle.rr_rounds.specs.States.{no_taken, taken, emptied, Learned, Member, State, Taken, handed, learned, member, nothing, steps}
use Rattle.rr_rounds.specs.declared.place.Place.{Place}
use Rattle.rr_rounds.specs.Joined.{Name, flat, id_of, in_order, joined, joined_id, joined_step, joined_with, last_step, names, names_of, own_name, renumbered, standing_before, taken_name}
use Rattle.rr_rounds.specs.Rounds.{Reached}
use Rattle.rr_rounds.specs.Rounds.{AreApart}
use Rattle.rr_rounds.proofs.Flat.{found, get_or-flat, Contains-flat}
use Rattle.rr_rounds.proofs.Standing.{earlier_line, earlier_round, listed, standing}
use Rattle.rr_rounds.proofs.Lawful.{IsMember, no_step}
use Rattle.rr_rounds.proofs.Reaching.{lawful}

cons_cases : {X : Type 0} (x : X) (xs : List X) (l : X) → Contains (x ∷ xs) l → (x ≡ l) ⊎ Contains xs l
cons_cases x xs l c = elim (Contains-append_cases (x ∷ []) xs l c) [
  | inl a ↦ elim (Contains-push_cases [] x l a) [ inl z ↦ absurd (omega (arith, z.1)) | inr e ↦ inl e ]
  | inr b ↦ inr b
]

-- the only element that passes is found
find_only : {X : Type 0} (p : X → Bool) (xs : List X) (x : X) → Contains xs x → p x ≡ true → ((y : X) → Contains xs y → p y ≡ true → y ≡ x) → find p xs ≡ Some x
find_only p [] x c t only = absurd (omega (arith, c.1))
find_only p (y ∷ ys) x c t only = by_cases (find_only p ys x) (cases_Bool (p y)) (cons_cases y ys x c)
  where
    by_cases : (Contains ys x → p x ≡ true → ((z : _) → Contains ys z → p z ≡ true → z ≡ x) → find p ys ≡ Some x) → ((p y ≡ true) ⊎ (p y ≡ false)) → ((y ≡ x) ⊎ Contains ys x) → cond (p y) (Some y) (find p ys) ≡ Some x
    by_cases later (inl e) w = cond-true (p y) (Some y) (find p ys) e ∙ ap Some (only y (Contains-append_left (y ∷ []) ys y (Contains-push [] y)) e)
    by_cases later (inr e) (inl q) = absurd (both_ways (p y) e (ap p q ∙ t))
    by_cases later (inr e) (inr m) = cond-false (p y) (Some y) (find p ys) e ∙ later m t (λ z k. only z (Contains-append_right (y ∷ []) ys z k))

find_none : {X : Type 0} (p : X → Bool) (xs : List X) → ((y : X) → Contains xs y → p y ≡ true → ⊥) → find p xs ≡ None
find_none p [] n = refl
find_none p (y ∷ ys) n =
    cond-false (p y) (Some y) (find p ys) (false_from_ne_true (p y) (n y (Contains-append_left (y ∷ []) ys y (Contains-push [] y))))
    ∙ find_none p ys (λ z k. n z (Contains-append_right (y ∷ []) ys z k))

flat_cases : {X : Type 0} (f : ℕ → List X) (n : ℕ) (x : X) → Contains (flat n f) x → (i : ℕ) × ((i < n) × Contains (f i) x)
flat_cases f n x c =
    let w = found f n c.0 c.1 in
    (w.index, (w.low, (w.offset, w.inside, sym (get_or-flat f n w.index w.low w.offset x w.inside) ∙ ap (λ p. get_or (flat n f) p x) (sym w.is) ∙ c.2)))

one_only : {X : Type 0} (y x : X) → Contains (y ∷ []) x → y ≡ x
one_only y x c = elim (Contains-push_cases [] y x c) [ inl z ↦ absurd (omega (arith, z.1)) | inr e ↦ e ]

Contains-map : {X Y : Type 0} (g : X → Y) (xs : List X) (x : X) → Contains xs x → Contains (map g xs) (g x)
Contains-map g xs x c = (c.0, omega (arith, c.1, length-map xs g), get_or-map g xs c.0 x (g x) c.1 ∙ ap g (value_at c))
  where
    value_at : (c : Contains xs x) → get_or xs c.0 x ≡ x
    value_at c = c.2

map_cases : {X Y : Type 0} (g : X → Y) (xs : List X) (d : X) (y : Y) → Contains (map g xs) y → (i : ℕ) × ((i < length xs) × (g (get_or xs i d) ≡ y))
map_cases g xs d y c =
    let h : c.0 < length xs = omega (arith, c.1, length-map xs g) in
    (c.0, (h, sym (get_or-map g xs c.0 d y h) ∙ c.2))

-- hints keep their meaning under other numbers
Leads-renumbered : (named to : ℕ → List Literal → Type 0) (g : ℕ → ℕ) → ((id : ℕ) (c : List Literal) → named id c → to (g id) c) → (hints : List ℕ) (held : List Literal) → Leads named held hints → Leads to held (map g hints)
Leads-renumbered named to g means [] held l = l
Leads-renumbered named to g means (h ∷ hs) held l = (l.0, (means h l.0 l.1.0, elim l.1.1 [ inl f ↦ inl f | inr w ↦ inr (w.0, (w.1.0, Leads-renumbered named to g means hs (held ++ w.0 ∷ []) w.1.1)) ]))

-- the line passes behind these lines, and its hints name clauses of the formula and of them
abbrev pub Stands : List (List Literal) → List Step → Step → Type 0
Stands formula ls x = Passes (Names formula ls) x.clause x.hints × All (λ h. (c : List Literal) × Names formula ls h c) x.hints

module _ (place : ℕ) (m : Member) (w : AreApart m) where
  abbrev pub own : ℕ → Name
  own k = record { id = (learned m k).step.id; line = record { member = place; line = k } }

  -- a name is that of a line, or of a handed clause
  pub name_cases : (n : Name) → Contains (names_of place m) n → ((k : ℕ) × ((k < length m.lines) × (own k ≡ n))) ⊎ ((j : ℕ) × ((j < length m.taken) × (taken_name (taken m j) ≡ n)))
  name_cases n c = elim (Contains-append_cases (flat (length m.lines) (own_name place m)) (map taken_name m.taken) n c) [
    | inl a ↦ (let x = flat_cases (own_name place m) (length m.lines) n a in inl (x.0, (x.1.0, one_only (own x.0) n x.1.1)))
    | inr b ↦ inr (map_cases taken_name m.taken no_taken n b)
  ]

  -- the ids of the names differ
  distinct : (x y : Name) → Contains (names_of place m) x → Contains (names_of place m) y → x.id ≡ y.id → x ≡ y
  distinct x y a b e = by_cases (name_cases x a) (name_cases y b)
    where
      Is : Name → Type 0
      Is n = ((k : ℕ) × ((k < length m.lines) × (own k ≡ n))) ⊎ ((j : ℕ) × ((j < length m.taken) × (taken_name (taken m j) ≡ n)))

      lines_same : (j k : ℕ) → j < length m.lines → k < length m.lines → (learned m j).step.id ≡ (learned m k).step.id → j ≡ k
      lines_same j k a b e = elim (cases_order j k) [
        | inl q ↦ q
        | inr o ↦ elim o [
          | inl l ↦ absurd (let r = w.lines j k l b in omega (arith, r, e))
          | inr l ↦ absurd (let r = w.lines k j l a in omega (arith, r, e))
        ]
      ]

      taken_same : (j k : ℕ) → j < length m.taken → k < length m.taken → (taken m j).handed.id ≡ (taken m k).handed.id → j ≡ k
      taken_same j k a b e = elim (cases_order j k) [
        | inl q ↦ q
        | inr o ↦ elim o [
          | inl l ↦ absurd (let r = w.clauses j k l b in omega (arith, r, e))
          | inr l ↦ absurd (let r = w.clauses k j l a in omega (arith, r, e))
        ]
      ]

      by_cases : (((k : ℕ) × ((k < length m.lines) × (own k ≡ x))) ⊎ ((j : ℕ) × ((j < length m.taken) × (taken_name (taken m j) ≡ x))))
          → (((k : ℕ) × ((k < length m.lines) × (own k ≡ y))) ⊎ ((j : ℕ) × ((j < length m.taken) × (taken_name (taken m j) ≡ y)))) → x ≡ y
      by_cases (inl p) (inl q) = sym p.1.1 ∙ ap own (lines_same p.0 q.0 p.1.0 q.1.0 (ap (λ n. n.id) p.1.1 ∙ e ∙ sym (ap (λ n. n.id) q.1.1))) ∙ q.1.1
      by_cases (inl p) (inr q) = absurd (w.differ q.0 p.0 q.1.0 p.1.0 (ap (λ n. n.id) q.1.1 ∙ sym e ∙ sym (ap (λ n. n.id) p.1.1)))
      by_cases (inr p) (inl q) = absurd (w.differ p.0 q.0 p.1.0 q.1.0 (ap (λ n. n.id) p.1.1 ∙ e ∙ sym (ap (λ n. n.id) q.1.1)))
      by_cases (inr p) (inr q) = sym p.1.1 ∙ ap (λ j. taken_name (taken m j)) (taken_same p.0 q.0 p.1.0 q.1.0 (ap (λ n. n.id) p.1.1 ∙ e ∙ sym (ap (λ n. n.id) q.1.1))) ∙ q.1.1

  -- a name is found by its id
  pub find_name : (n : Name) → Contains (names_of place m) n → find (λ x. x.id == n.id) (names_of place m) ≡ Some n
  find_name n c = find_only (λ x. x.id == n.id) (names_of place m) n c (eq-eqb n.id n.id refl) (λ y k e. distinct y n k c (eqb-true y.id n.id e))

  pub find_no_name : (h : ℕ) → ((n : Name) → Contains (names_of place m) n → n.id ≡ h → ⊥) → find (λ x. x.id == h) (names_of place m) ≡ None
  find_no_name h none = find_none (λ x. x.id == h) (names_of place m) (λ y k e. none y k (eqb-true y.id h e))

  pub own_contained : (k : ℕ) → k < length m.lines → Contains (names_of place m) (record { id = (learned m k).step.id; line = record { member = place; line = k } })
  own_contained k h = Contains-append_left (flat (length m.lines) (own_name place m)) (map taken_name m.taken) _
      (Contains-flat (own_name place m) (length m.lines) k h _ (Contains-push [] _))

  pub taken_contained : (j : ℕ) → j < length m.taken → Contains (names_of place m) (taken_name (taken m j))
  taken_contained j h = Contains-append_right (flat (length m.lines) (own_name place m)) (map taken_name m.taken) _
      (Contains-map taken_name m.taken (taken m j) (Contains-get_or m.taken j no_taken h))

  -- what an id means
  pub meant_own : (k id : ℕ) → k < length m.lines → (learned m k).step.id ≡ id → ◌≡◌ {A = Option Place} (Some (record { member = place; line = k })) (option_map (λ n. n.line) (find (λ n. n.id == id) (names_of place m)))
  meant_own k id h e =
      subst (λ i. ◌≡◌ {A = Option Place} (Some (record { member = place; line = k })) (option_map (λ n. n.line) (find (λ n. n.id == i) (names_of place m)))) e
      (ap (option_map (λ (n : Name). n.line)) (sym (find_name (record { id = (learned m k).step.id; line = record { member = place; line = k } }) (own_contained k h))))

  pub meant_taken : (j id : ℕ) → j < length m.taken → (taken m j).handed.id ≡ id → Some (taken m j).origin ≡ option_map (λ n. n.line) (find (λ n. n.id == id) (names_of place m))
  meant_taken j id h e =
      subst (λ i. Some (taken m j).origin ≡ option_map (λ n. n.line) (find (λ n. n.id == i) (names_of place m))) e
      (ap (option_map (λ (n : Name). n.line)) (sym (find_name (taken_name (taken m j)) (taken_contained j h))))

  pub meant_none : (id : ℕ) → ((k : ℕ) → k < length m.lines → (learned m k).step.id ≡ id → ⊥) → ((j : ℕ) → j < length m.taken → (taken m j).handed.id ≡ id → ⊥) → ◌≡◌ {A = Option Place} None (option_map (λ n. n.line) (find (λ n. n.id == id) (names_of place m)))
  meant_none id lines clauses =
      ap (option_map (λ (n : Name). n.line)) (sym (find_no_name id (λ n c e. elim (name_cases n c) [
        | inl a ↦ lines a.0 a.1.0 (ap (λ x. x.id) a.1.1 ∙ e)
        | inr b ↦ clauses b.0 b.1.0 (ap (λ x. x.id) b.1.1 ∙ e)
      ])))

pub apart_of : (f : Clauses) (inputs : ℕ) (s : State) (m : Member) → IsMember f inputs s m → AreApart m
apart_of f inputs s m w = record { lines = w.rising; clauses = w.apart; differ = w.differ }

module _ (f : Clauses) (inputs : ℕ) (s : State) (m : ℕ) (w : IsMember f inputs s (member s m)) where
  apart : AreApart (member s m)
  apart = apart_of f inputs s (member s m) w

  -- a hint that names a line gets the joined id of the line
  pub renumbered_name : (n : Name) → Contains (names s m) n → renumbered f s m n.id ≡ joined_id f s n.line
  renumbered_name n c = ap (id_of f s n.id) (find_name m (member s m) apart n c)

  own_step : (k : ℕ) → k < length (member s m).lines → get_or (steps (member s m)) k no_step ≡ (learned (member s m) k).step
  own_step k h = get_or-map (λ (y : Learned). y.step) (member s m).lines k nothing no_step h

  name_above : (n : Name) → Contains (names s m) n → length f.clauses < n.id
  name_above n c = elim (name_cases m (member s m) apart n c) [
    | inl a ↦
        (let inside : a.0 < length (steps (member s m)) = omega (arith, a.1.0, length-map (member s m).lines (λ (y : Learned). y.step)) in
        subst (λ (x : Name). length f.clauses < x.id) a.1.1 (subst (λ (x : Step). length f.clauses < x.id) (own_step a.0 a.1.0) (All-get_or (λ (x : Step). length f.clauses < x.id) (steps (member s m)) a.0 no_step inside w.log.above)))
    | inr b ↦
        (let inside : b.0 < length (handed (member s m)) = omega (arith, b.1.0, length-map (member s m).taken (λ (y : Taken). y.handed)) in
        subst (λ (x : Name). length f.clauses < x.id) b.1.1 (subst (λ (x : Handed). length f.clauses < x.id) (get_or-map (λ (y : Taken). y.handed) (member s m).taken b.0 no_taken (record { id = 0; clause = [] }) b.1.0) (All-get_or (λ (x : Handed). length f.clauses < x.id) (handed (member s m)) b.0 (record { id = 0; clause = [] }) inside w.above)))
  ]

  -- a hint that names a clause of the formula stays
  pub renumbered_formula : (h : ℕ) → h ≤ length f.clauses → renumbered f s m h ≡ h
  renumbered_formula h low = ap (id_of f s h) (find_none (λ x. x.id == h) (names s m) (λ y k e. let a = name_above y k in let q = eqb-true y.id h e in omega (arith, a, q)))

  -- what is at hand for the member is at hand in the joined journal, under the new number, where these
  -- lines stand before
  module _ (before_it : List Place) (ls : List Step) (hs : List Handed)
      (has_lines : (x : Step) → Contains ls x → (k : ℕ) × ((k < length (member s m).lines) × (((learned (member s m) k).step ≡ x) × Contains before_it (record { member = m; line = k }))))
      (has_taken : (x : Handed) → Contains hs x → (j : ℕ) × ((j < length (member s m).taken) × (((taken (member s m) j).handed ≡ x) × Contains before_it (taken (member s m) j).origin))) where
    renamed : (h : ℕ) (c : List Literal) → NamesAtHand f.clauses ls hs h c → Names f.clauses (map (joined_step f s) before_it) (renumbered f s m h) c
    renamed h c (inl (inl a)) =
        let low : h ≤ length f.clauses = let b = slice_get_within f.clauses (h - 1) c a.1 in omega (arith, a.0, b) in
        subst (λ i. Names f.clauses (map (joined_step f s) before_it) i c) (sym (renumbered_formula h low)) (inl a)
    renamed h c (inl (inr x)) =
        let a = has_lines x.0 x.1.0 in
        let p : Place = record { member = m; line = a.0 } in
        let id : (learned (member s m) a.0).step.id ≡ h = ap (λ (y : Step). y.id) a.1.1.0 ∙ x.1.1 in
        let new : joined_id f s p ≡ renumbered f s m h = sym (renumbered_name (record { id = (learned (member s m) a.0).step.id; line = p }) (own_contained m (member s m) apart a.0 a.1.0)) ∙ ap (renumbered f s m) id in
        inr (joined_step f s p, (Contains-map (joined_step f s) before_it p a.1.1.1, new, ap (λ (y : Step). y.clause) a.1.1.0 ∙ x.1.2))
    renamed h c (inr x) =
        let b = has_taken x.0 x.1.0 in
        let t = taken (member s m) b.0 in
        let id : t.handed.id ≡ h = ap (λ (y : Handed). y.id) b.1.1.0 ∙ x.1.1 in
        let new : joined_id f s t.origin ≡ renumbered f s m h = sym (renumbered_name (taken_name t) (taken_contained m (member s m) apart b.0 b.1.0)) ∙ ap (renumbered f s m) id in
        inr (joined_step f s t.origin, (Contains-map (joined_step f s) before_it t.origin b.1.1.1, new, sym (w.origins b.0 b.1.0).clause ∙ ap (λ (y : Handed). y.clause) b.1.1.0 ∙ x.1.2))

    pub Stands-renumbered : (id : ℕ) (x : Step) → PassesAfter f ls hs x × NamesAll f ls hs x → Stands f.clauses (map (joined_step f s) before_it) (record { id = id; clause = x.clause; hints = map (renumbered f s m) x.hints })
    Stands-renumbered id x p = (
      (p.0.0, Leads-renumbered (NamesAtHand f.clauses ls hs) (Names f.clauses (map (joined_step f s) before_it)) (renumbered f s m) renamed x.hints (map negated x.clause) p.0.1),
      All-map (λ (h : ℕ). (c : List Literal) × Names f.clauses (map (joined_step f s) before_it) h c) (renumbered f s m) x.hints (λ k d h. let y = p.1 k d h in (y.1.0, renamed (get_or x.hints k d) y.1.0 y.1.1)),
    )

  -- a line stands behind those before it
  pub line_stands : (k : ℕ) → m < length s.members → k < length (member s m).lines → Stands f.clauses (map (joined_step f s) (standing_before s (record { member = m; line = k }))) (joined_step f s (record { member = m; line = k }))
  line_stands k low h =
      let p : Place = record { member = m; line = k } in
      let size = length-map (member s m).lines (λ (y : Learned). y.step) in
      let inside : k < length (steps (member s m)) = omega (arith, size) in
      let front = length-take-le k (steps (member s m)) (omega (arith, size)) in
      let n = (line (steps (member s m)) k).id in
      let x = (learned (member s m) k).step in
      Stands-renumbered (standing_before s p) (take k (steps (member s m))) (before n (handed (member s m)))
      (λ y c.
      let j : c.0 < k = omega (arith, c.1, front) in
      let l : c.0 < length (member s m).lines = omega arith in (
        c.0,
        (
          l,
          (
            sym (own_step c.0 l) ∙ sym (get_or-take k (steps (member s m)) c.0 no_step j) ∙ get_or-any (take k (steps (member s m))) c.0 no_step y c.1 ∙ c.2,
            elim (cases_lt (learned (member s m) c.0).round (learned (member s m) k).round) [
              | inl a ↦ earlier_round s p (record { member = m; line = c.0 }) (record { low = low; inside = l }) a
              | inr b ↦ earlier_line s p c.0 j (let r = w.rounds c.0 k j h in omega arith)
            ],
          ),
        ),
      ))
      (λ y c.
      let from = map_cases (λ (t : Taken). t.handed) (member s m).taken no_taken y (from_before n (handed (member s m)) y c) in
      let o = w.origins from.0 from.1.0 in
      let passes : nat_lt y.id n ≡ true = All-contains (λ (z : Handed). nat_lt z.id n ≡ true) (before n (handed (member s m))) y (filter_passes (λ z. nat_lt z.id n) (handed (member s m))) c in
      let earlier : (taken (member s m) from.0).handed.id < x.id = let a = ltb-true y.id n passes in let e = ap (λ (z : Handed). z.id) from.1.1 in let i = ap (λ (z : Step). z.id) (own_step k h) in omega (arith, a, e, i) in
      (from.0, (from.1.0, (from.1.1, earlier_round s p (taken (member s m) from.0).origin o.at (o.before k h earlier)))))
      (joined_id f s p) x
      (subst (λ (y : Step). PassesAfter f (take k (steps (member s m))) (before n (handed (member s m))) y × NamesAll f (take k (steps (member s m))) (before n (handed (member s m))) y) (own_step k h) (w.log.passes k inside, w.log.hints k inside))
    where
      get_or-any : {X : Type 0} (xs : List X) (i : ℕ) (d e : X) → i < length xs → get_or xs i d ≡ get_or xs i e
      get_or-any [] i d e h = absurd (omega arith)
      get_or-any (x ∷ xs) zero d e h = refl
      get_or-any (x ∷ xs) (suc i) d e h = get_or-any xs i d e (omega arith)

  -- the empty line stands behind all lines
  pub ending_stands : m < length s.members → (e : Step) → PassesAfter f (steps (member s m)) (handed (member s m)) e × NamesAll f (steps (member s m)) (handed (member s m)) e → Stands f.clauses (joined f s) (last_step f s m e)
  ending_stands low e p = Stands-renumbered (in_order s) (steps (member s m)) (handed (member s m))
      (λ y c.
      let from = map_cases (λ (l : Learned). l.step) (member s m).lines nothing y c in
      (from.0, (from.1.0, (from.1.1, listed s (record { member = m; line = from.0 }) (record { low = low; inside = from.1.0 }) (w.upto from.0 from.1.0)))))
      (λ y c.
      let from = map_cases (λ (t : Taken). t.handed) (member s m).taken no_taken y c in
      let o = w.origins from.0 from.1.0 in
      (from.0, (from.1.0, (from.1.1, listed s (taken (member s m) from.0).origin o.at (let a = o.old in omega arith)))))
      (length f.clauses + 1 + length (in_order s)) e p

module _ (f : Clauses) (inputs count : ℕ) (s : State) (r : Reached f inputs count s) where
  stands_at : (p : ℕ) → p < length (joined f s) → (d : Step) → Stands f.clauses (take p (joined f s)) (get_or (joined f s) p d)
  stands_at p h d =
      let inside : p < length (in_order s) = omega (arith, length-map (in_order s) (joined_step f s)) in
      let a = standing s p inside in
      let q = a.place in
      let here : joined_step f s q ≡ get_or (joined f s) p d = sym (get_or-map (joined_step f s) (in_order s) p q d inside ∙ ap (joined_step f s) (a.is q)) in
      let front : map (joined_step f s) (standing_before s q) ≡ take p (joined f s) = sym (take-map (joined_step f s) p (in_order s) ∙ ap (map (joined_step f s)) a.earlier) in
      subst (Stands f.clauses (take p (joined f s))) here
      (subst (λ ls. Stands f.clauses ls (joined_step f s q)) front
      (line_stands f inputs s q.member (lawful f inputs count s r q.member) q.line a.at.low a.at.inside))

  pub joined_derives : Derives f.clauses (joined f s)
  joined_derives p h d = (stands_at p h d).0

  pub joined_hinted : AreHinted f.clauses (joined f s)
  joined_hinted p d h = (stands_at p h d).1

  module _ (m : ℕ) (e : Step) (is : (member s m).ending ≡ Some (emptied e)) where
    some_member : (s : State) (m : ℕ) (e : Step) → (member s m).ending ≡ Some (emptied e) → m < length s.members
    some_member s m e is = elim (cases_lt m (length s.members)) [
      | inl l ↦ l
      | inr l ↦ absurd (let z : None ≡ Some (emptied e) = sym (ap (λ (x : Member). x.ending) (get_or_past s.members m _ l)) ∙ is in cc)
    ]

    stands_with : (p : ℕ) → p < length (joined_with f s m e) → (d : Step) → Stands f.clauses (take p (joined_with f s m e)) (get_or (joined_with f s m e) p d)
    stands_with p h d =
        let w = lawful f inputs count s r m in
        let t = w.ending e is in
        elim (cases_lt p (length (joined f s))) [
          | inl i ↦ subst (Stands f.clauses (take p (joined_with f s m e))) (sym (get_or_append_left (joined f s) (last_step f s m e ∷ []) d p i))
              (subst (λ ls. Stands f.clauses ls (get_or (joined f s) p d)) (sym (take-append-le p (joined f s) (last_step f s m e ∷ []) (omega arith))) (stands_at p i d))
          | inr i ↦
              (let last : p ≡ length (joined f s) = omega (arith, length_push (joined f s) (last_step f s m e)) in
              subst (λ n. Stands f.clauses (take n (joined_with f s m e)) (get_or (joined_with f s m e) n d)) (sym last)
              (subst (Stands f.clauses (take (length (joined f s)) (joined_with f s m e))) (sym (get_or-append_seam (joined f s) (last_step f s m e) [] d))
              (subst (λ ls. Stands f.clauses ls (last_step f s m e)) (sym (take-append_seam (joined f s) (last_step f s m e ∷ []))) (ending_stands f inputs s m w (some_member s m e is) e (t.0, t.1.0)))))
        ]

    pub joined_refutes : Refutes f.clauses (joined_with f s m e)
    joined_refutes = (λ p h d. (stands_with p h d).0, (last_step f s m e, (Contains-push (joined f s) (last_step f s m e), ((lawful f inputs count s r m).ending e is).1.1)))

    pub joined_with_hinted : AreHinted f.clauses (joined_with f s m e)
    joined_with_hinted p d h = (stands_with p h d).1

  pub lines_rising : (m : ℕ) → IsRising (steps (member s m))
  lines_rising m j k d e a h =
      let w = lawful f inputs count s r m in
      let size = length-map (member s m).lines (λ (y : Learned). y.step) in
      let l : k < length (member s m).lines = omega (arith, size) in
      let first = get_or-map (λ (y : Learned). y.step) (member s m).lines j nothing d (omega (arith, size)) in
      let second = get_or-map (λ (y : Learned). y.step) (member s m).lines k nothing e l in
      subst (λ (x : Step). x.id < (get_or (steps (member s m)) k e).id) (sym first) (subst (λ (x : Step). (learned (member s m) j).step.id < x.id) (sym second) (w.rising j k a l))

  pub lines_fresh : (m : ℕ) → Fresh f.clauses inputs (held_of (handed (member s m)) (steps (member s m))) (steps (member s m))
  lines_fresh m = all_fresh f inputs (handed (member s m)) (steps (member s m)) Running [] (lawful f inputs count s r m).log (lines_rising m) (λ q. let z : Running ≡ Refuted = q in cc)

  pub lines_few : (m : ℕ) → length (member s m).lines ≤ inputs * 3 ^ inputs
  lines_few m =
      let w = few f.clauses inputs (held_of (handed (member s m)) (steps (member s m))) (steps (member s m)) (lines_fresh m) in
      omega (arith, w, length-map (member s m).lines (λ (y : Learned). y.step))
