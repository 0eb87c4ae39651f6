-- the events of each member, one member after another, are moves of a round
use Rattle.std.proofs.Common.{◌≡◌, ◌⊎◌, inl, inr, ℕ, suc, zero, ◌+◌, ◌<◌, ◌≤◌, ◌==◌, Bool, true, false, cond, List, [], ◌∷◌, ◌++◌, length, get_or, map, set, refl, sym, ◌∙◌, ap, subst, arith}
use Rattle.std.specs.Prelude.{IsSome}
use Rattle.std.proofs.lemmas.Bool.{cases_eq, eq-eqb, ne_eqb}
use Rattle.std.proofs.lemmas.List.{get_or-map, get_or-set_same, length-map, length-set, set-get_or, set-set}
use Rattle.std.proofs.lemmas.List.Sums.{sum_by-append, sum_by-cons}
use Rattle.rr_cnf.specs.Clauses.{Clauses}
use Rattle.rr_rounds.specs.States.{Member, State, idle, member}
use Rattle.rr_rounds.specs.Rounds.{AreMoves, Event, HasMade, Move, Reached, by_move, after, moved, moved_all, moves_of}
use Rattle.rr_member.specs.Seats.{Ran, Seated, member_of}
use Rattle.rr_rounds.specs.Rounds.{MayAll, after_all}
use Rattle.rr_member.specs.Sharing.{nobody, seat, state_of}
use Rattle.rr_members.specs.Groups.{EachRan}

abbrev move_of : ℕ → Event → Move
move_of k e = record { member = k; event = e }

abbrev moves : ℕ → List Event → List Move
moves k es = map (move_of k) es

-- moves one after another
moved_all-append : (s : State) (us vs : List Move) → moved_all s (us ++ vs) ≡ moved_all (moved_all s us) vs
moved_all-append s [] vs = refl
moved_all-append s (u ∷ us) vs = moved_all-append (moved s u) us vs

AreMoves-append : (f : Clauses) (inputs : ℕ) (s : State) (us vs : List Move) → AreMoves f inputs s us → AreMoves f inputs (moved_all s us) vs → AreMoves f inputs s (us ++ vs)
AreMoves-append f inputs s [] vs a b = b
AreMoves-append f inputs s (u ∷ us) vs a b = (a.0, AreMoves-append f inputs (moved s u) us vs a.1 b)

pub Reached-moves : (f : Clauses) (inputs count : ℕ) (s : State) (vs : List Move) → Reached f inputs count s → AreMoves f inputs s vs → Reached f inputs count (moved_all s vs)
Reached-moves f inputs count s [] r a = r
Reached-moves f inputs count s (v ∷ vs) r a = Reached-moves f inputs count (moved s v) vs (by_move v r a.0) a.1

-- the events of one member
module _ (f : Clauses) (inputs : ℕ) where
  one_are : (s : State) (k : ℕ) (es : List Event) → k < length s.members → MayAll f inputs s.round (member s k) es → AreMoves f inputs s (moves k es)
  one_are s k [] h a = tt
  one_are s k (e ∷ es) h a =
      let new = after s.round (member s k) e in (
        (h, a.0),
        one_are (moved s (move_of k e)) k es (omega (arith, length-set s.members k new))
            (subst (λ m. MayAll f inputs s.round m es) (sym (get_or-set_same s.members k new idle h)) a.1),
      )

one_moved : (s : State) (k : ℕ) (es : List Event) → k < length s.members → moved_all s (moves k es) ≡ record s { members = set s.members k (after_all s.round (member s k) es) }
one_moved s k [] h = ap (λ ms. record s { members = ms }) (sym (set-get_or s.members k idle))
one_moved s k (e ∷ es) h =
    let new = after s.round (member s k) e in
    one_moved (moved s (move_of k e)) k es (omega (arith, length-set s.members k new))
    ∙ ap (λ m. record s { members = set (set s.members k new) k (after_all s.round m es) }) (get_or-set_same s.members k new idle h)
    ∙ ap (λ ms. record s { members = ms }) (set-set s.members k new (after_all s.round new es))

one_count : (k m : ℕ) (es : List Event) → moves_of m (moves k es) ≡ cond (k == m) (length es) 0
one_count k m es = by_cases (cases_eq k m)
  where
    all_count : (b : Bool) → (k == m) ≡ b → (es : List Event) → moves_of m (moves k es) ≡ cond b (length es) 0
    all_count true e [] = refl
    all_count false e [] = refl
    all_count true e (x ∷ es) = sum_by-cons (λ v. cond (v.member == m) 1 0) (move_of k x) (moves k es) ∙ ap (λ b. cond b 1 0 + moves_of m (moves k es)) e ∙ ap (λ n. 1 + n) (all_count true e es) ∙ (omega arith)
    all_count false e (x ∷ es) = sum_by-cons (λ v. cond (v.member == m) 1 0) (move_of k x) (moves k es) ∙ ap (λ b. cond b 1 0 + moves_of m (moves k es)) e ∙ ap (λ n. 0 + n) (all_count false e es)

    by_cases : ((k ≡ m) ⊎ (k ≡ m → ⊥)) → moves_of m (moves k es) ≡ cond (k == m) (length es) 0
    by_cases (inl e) = all_count true (eq-eqb k m e) es ∙ ap (λ b. cond b (length es) 0) (sym (eq-eqb k m e))
    by_cases (inr ne) = all_count false (ne_eqb k m ne) es ∙ ap (λ b. cond b (length es) 0) (sym (ne_eqb k m ne))

-- the first n of the new list, and the rest of the old one
mix : ℕ → List Member → List Member → List Member
mix zero ns ms = ms
mix (suc n) [] ms = ms
mix (suc n) (y ∷ ns) [] = []
mix (suc n) (y ∷ ns) (x ∷ ms) = y ∷ mix n ns ms

mix-length : (n : ℕ) (ns ms : List Member) → length (mix n ns ms) ≡ length ms
unfolding mix
mix-length zero ns ms = refl
mix-length (suc n) [] ms = refl
mix-length (suc n) (y ∷ ns) [] = refl
mix-length (suc n) (y ∷ ns) (x ∷ ms) = ap suc (mix-length n ns ms)

mix-get_or : (n : ℕ) (ns ms : List Member) → get_or (mix n ns ms) n idle ≡ get_or ms n idle
unfolding mix
mix-get_or zero ns ms = refl
mix-get_or (suc n) [] ms = refl
mix-get_or (suc n) (y ∷ ns) [] = refl
mix-get_or (suc n) (y ∷ ns) (x ∷ ms) = mix-get_or n ns ms

mix-set : (n : ℕ) (ns ms : List Member) → n < length ns → n < length ms → set (mix n ns ms) n (get_or ns n idle) ≡ mix (suc n) ns ms
unfolding mix
mix-set n [] ms a b = absurd (omega arith)
mix-set n (y ∷ ns) [] a b = absurd (omega arith)
mix-set zero (y ∷ ns) (x ∷ ms) a b = refl
mix-set (suc n) (y ∷ ns) (x ∷ ms) a b = ap (λ zs. y ∷ zs) (mix-set n ns ms (omega arith) (omega arith))

mix-all : (n : ℕ) (ns ms : List Member) → length ns ≡ n → length ms ≡ n → mix n ns ms ≡ ns
unfolding mix
mix-all zero [] [] a b = refl
mix-all zero [] (x ∷ ms) a b = absurd (omega arith)
mix-all zero (y ∷ ns) ms a b = absurd (omega arith)
mix-all (suc n) [] ms a b = absurd (omega arith)
mix-all (suc n) (y ∷ ns) [] a b = absurd (omega arith)
mix-all (suc n) (y ∷ ns) (x ∷ ms) a b = ap (λ zs. y ∷ zs) (mix-all n ns ms (omega arith) (omega arith))

module _ (f : Clauses) (inputs steps round : ℕ) (old new : List Seated)
    (asked : (k : ℕ) → k < length old → ((seat old k).search.formula ≡ f) × ((seat old k).search.inputs ≡ inputs))
    (ran : EachRan steps round old new) where
  ms : List Member
  ms = map member_of old

  ns : List Member
  ns = map member_of new

  pub seat_member : (seats : List Seated) (k : ℕ) → k < length seats → get_or (map member_of seats) k idle ≡ member_of (seat seats k)
  seat_member seats k h = get_or-map member_of seats k nobody idle h

  down : (n : ℕ) → suc n ≤ length old → n ≤ length old
  down n h = omega arith

  whole : length old ≤ length old
  whole = omega arith

  -- the events of the first n members
  build : (n : ℕ) → n ≤ length old → List Move
  build zero h = []
  build (suc n) h = build n (down n h) ++ moves n (ran.each n h).is.events

  mixed : ℕ → State
  mixed n = record { round = round; members = mix n ns ms }

  build_moved : (n : ℕ) (h : n ≤ length old) → AreMoves f inputs (state_of round old) (build n h) × (moved_all (state_of round old) (build n h) ≡ mixed n)
  unfolding build mixed ms ns mix
  build_moved zero h = (tt, refl)
  build_moved (suc n) h =
      let rest = build_moved n (down n h) in
      let r = ran.each n h in
      let es = r.is.events in
      let low : n < length (mix n ns ms) = omega (arith, mix-length n ns ms, length-map old member_of) in
      let at : member (mixed n) n ≡ member_of (seat old n) = mix-get_or n ns ms ∙ seat_member old n (omega arith) in
      let a = asked n (omega arith) in
      let may : MayAll f inputs round (member (mixed n) n) es =
      subst (λ m. MayAll f inputs round m es) (sym at) (subst (λ g. MayAll g inputs round (member_of (seat old n)) es) a.0 (subst (λ i. MayAll (seat old n).search.formula i round (member_of (seat old n)) es) a.1 r.is.may)) in
      let end : after_all round (member (mixed n) n) es ≡ get_or ns n idle = ap (λ m. after_all round m es) at ∙ sym r.is.is ∙ sym (seat_member new n (omega (arith, ran.count))) in (
        AreMoves-append f inputs (state_of round old) (build n (down n h)) (moves n es) rest.0
            (subst (λ s. AreMoves f inputs s (moves n es)) (sym rest.1) (one_are f inputs (mixed n) n es low may)),
        moved_all-append (state_of round old) (build n (down n h)) (moves n es)
            ∙ ap (λ s. moved_all s (moves n es)) rest.1
            ∙ one_moved (mixed n) n es low
            ∙ ap (λ m. record { round = round; members = set (mix n ns ms) n m }) end
            ∙ ap (λ zs. record { round = round; members = zs }) (mix-set n ns ms (omega (arith, length-map new member_of, ran.count)) (omega (arith, length-map old member_of))),
      )

  build_more : (n m : ℕ) (h : suc n ≤ length old) → moves_of m (build (suc n) h) ≡ moves_of m (build n (down n h)) + cond (n == m) (length (ran.each n h).is.events) 0
  unfolding build
  build_more n m h = sum_by-append (λ v. cond (v.member == m) 1 0) (build n (down n h)) (moves n (ran.each n h).is.events) ∙ ap (λ c. moves_of m (build n (down n h)) + c) (one_count n m (ran.each n h).is.events)

  build_none : (n m : ℕ) (h : n ≤ length old) → n ≤ m → moves_of m (build n h) ≡ 0
  unfolding build
  build_none zero m h l = refl
  build_none (suc n) m h l =
      let rest = build_none n m (down n h) (omega arith) in
      let more = build_more n m h in
      let other : cond (n == m) (length (ran.each n h).is.events) 0 ≡ 0 = ap (λ b. cond b (length (ran.each n h).is.events) 0) (ne_eqb n m (omega arith)) in
      more ∙ ap (λ c. moves_of m (build n (down n h)) + c) other ∙ (omega (arith, rest))

  build_count : (n m : ℕ) (h : n ≤ length old) → m < n → (c : ℕ) × ((moves_of m (build n h) ≡ c) × ((c ≤ steps) × ((c ≡ steps) ⊎ IsSome (member_of (seat new m)).ending)))
  unfolding build
  build_count zero m h l = absurd (omega arith)
  build_count (suc n) m h l = by_cases (build_count n m (down n h)) (build_none n m (down n h)) (cases_eq n m)
    where
      r : Ran steps round (seat old n) (seat new n)
      r = ran.each n h

      by_cases : (m < n → (c : ℕ) × ((moves_of m (build n (down n h)) ≡ c) × ((c ≤ steps) × ((c ≡ steps) ⊎ IsSome (member_of (seat new m)).ending))))
          → (n ≤ m → moves_of m (build n (down n h)) ≡ 0) → ((n ≡ m) ⊎ (n ≡ m → ⊥))
          → (c : ℕ) × ((moves_of m (build (suc n) h) ≡ c) × ((c ≤ steps) × ((c ≡ steps) ⊎ IsSome (member_of (seat new m)).ending)))
      by_cases older none (inl e) =
          let same : cond (n == m) (length r.is.events) 0 ≡ length r.is.events = ap (λ b. cond b (length r.is.events) 0) (eq-eqb n m e) in
          (r.made, ((let a = build_more n m h in let b = none (omega (arith, e)) in let c = r.is.many in omega (arith, a, b, c, same)), (r.few, elim r.enough [ inl q ↦ inl q | inr q ↦ inr (subst (λ k. IsSome (member_of (seat new k)).ending) e q) ])))
      by_cases older none (inr ne) =
          let w = older (omega (arith, ne)) in
          let other : cond (n == m) (length r.is.events) 0 ≡ 0 = ap (λ b. cond b (length r.is.events) 0) (ne_eqb n m ne) in
          (w.0, ((let a = build_more n m h in let b = w.1.0 in omega (arith, a, b, other)), w.1.1))

  pub played : List Move
  played = build (length old) whole

  pub played_are : AreMoves f inputs (state_of round old) played
  unfolding played
  played_are = (build_moved (length old) whole).0

  pub played_moved : moved_all (state_of round old) played ≡ state_of round new
  unfolding played mixed ms ns
  played_moved = (build_moved (length old) whole).1 ∙ ap (λ zs. record { round = round; members = zs }) (mix-all (length old) ns ms (length-map new member_of ∙ ran.count) (length-map old member_of))

  pub played_made : (m : ℕ) → m < length old → HasMade steps played (state_of round new) m
  unfolding played
  played_made m h =
      let w = build_count (length old) m whole h in
      elim w.1.1.1 [
        | inl q ↦ inl (w.1.0 ∙ q)
        | inr q ↦ inr ((let a = w.1.0 in let b = w.1.1.0 in omega (arith, a, b)), subst (λ (x : Member). IsSome x.ending) (sym (seat_member new m (omega (arith, ran.count)))) q)
      ]
