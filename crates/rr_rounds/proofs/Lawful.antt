-- what is true of each member of a reached state
use Rattle.std.proofs.Common.{◌≡◌, inl, inr, ℕ, suc, zero, ◌+◌, ◌-◌, ◌<◌, ◌≤◌, Bool, List, [], ◌∷◌, ◌++◌, length, get_or, map, take, refl, sym, ◌∙◌, ap, subst, arith}
use Rattle.std.specs.Prelude.{All, Contains, Some, None}
use Rattle.std.proofs.Math.Seq.{take-append-add, get_or-append_seam}
use Rattle.std.proofs.lemmas.Bool.{cases_lt}
use Rattle.std.proofs.lemmas.List.{append-nil, append_assoc, length-append, length-map, length_push, length-take-le, get_or-map, get_or_append_left, get_or-append_right, get_or-take, map-append, map_push, take_all, take_more}
use Rattle.std.proofs.lemmas.List.Elements.{All-append, All-get_or, All-map, Contains-append_left}
use Rattle.rr_cnf.specs.Clauses.{Clauses, Literal, negated}
use Rattle.rr_derive.specs.Derive.{Step}
use Rattle.rr_derive.specs.Fresh.{Handed, NamesAtHand}
use Rattle.rr_solver.specs.Searches.{IsFreshAfter, IsLog, IsNewId, NamesAll, PassesAfter}
use Rattle.rr_solver.specs.declared.engine.Status.TheVariants.{Running}
use Rattle.rr_solver.proofs.LogSteps.{IsLog-import, IsLog-learn, IsLog-none}
use Rattle.rr_solver.proofs.EngineSteps.{Leads-more}
use Rattle.rr_rounds.specs.Joined.{IsLine}
use Rattle.rr_rounds.specs.States.{no_taken, taken, emptied, solved, Learned, Member, State, Taken, handed, idle, learned, line_of, nothing, steps}
use Rattle.rr_rounds.specs.declared.place.Place.{Place}
use Rattle.rr_rounds.specs.Rounds.{MayWrite}

abbrev pub no_step : Step
no_step = record { id = 0; clause = []; hints = [] }

-- a handed clause is that of a line of an earlier round, and of one earlier than each line that came
-- after the hand-over
pub record IsOrigin (s : State) (m : Member) (t : Taken) : Type 0 where
  pub at : IsLine s t.origin
  pub clause : t.handed.clause ≡ (line_of s t.origin).step.clause
  pub old : (line_of s t.origin).round < s.round
  pub before : (k : ℕ) → k < length m.lines → t.handed.id < (learned m k).step.id → (line_of s t.origin).round < (learned m k).round

pub record IsMember (f : Clauses) (inputs : ℕ) (s : State) (m : Member) : Type 0 where
  pub log : IsLog f inputs (handed m) (steps m) Running []
  pub rising : (j k : ℕ) → j < k → k < length m.lines → (learned m j).step.id < (learned m k).step.id
  pub rounds : (j k : ℕ) → j < k → k < length m.lines → (learned m j).round ≤ (learned m k).round
  pub upto : (k : ℕ) → k < length m.lines → (learned m k).round ≤ s.round
  pub above : All (λ h. length f.clauses < h.id) (handed m)
  pub apart : (j k : ℕ) → j < k → k < length m.taken → (taken m j).handed.id < (taken m k).handed.id
  pub differ : (j k : ℕ) → j < length m.taken → k < length m.lines → (taken m j).handed.id ≡ (learned m k).step.id → ⊥
  pub origins : (j : ℕ) → j < length m.taken → IsOrigin s m (taken m j)
  pub ending : (e : Step) → m.ending ≡ Some (emptied e) → PassesAfter f (steps m) (handed m) e × (NamesAll f (steps m) (handed m) e × (e.clause ≡ []))

-- a later state: each line is still there
pub record Grows (old new : State) : Type 0 where
  pub round : old.round ≤ new.round
  pub lines : (p : Place) → IsLine old p → IsLine new p × (line_of new p ≡ line_of old p)

pub IsOrigin-grows : (old new : State) (m : Member) (t : Taken) → Grows old new → IsOrigin old m t → IsOrigin new m t
IsOrigin-grows old new m t g o =
    let w = g.lines t.origin o.at in
    record {
      at = w.0;
      clause = o.clause ∙ ap (λ l. l.step.clause) (sym w.1);
      old = subst (λ (l : Learned). l.round < new.round) (sym w.1) (let a = o.old in let b = g.round in omega arith);
      before = λ k h l. subst (λ (x : Learned). x.round < (learned m k).round) (sym w.1) (o.before k h l);
    }

module _ (f : Clauses) (inputs : ℕ) where
  pub IsMember-grows : (old new : State) (m : Member) → Grows old new → IsMember f inputs old m → IsMember f inputs new m
  IsMember-grows old new m g w = record {
    log = w.log;
    rising = w.rising;
    rounds = w.rounds;
    upto = λ k h. let a = w.upto k h in let b = g.round in omega arith;
    above = w.above;
    apart = w.apart;
    differ = w.differ;
    origins = λ j h. IsOrigin-grows old new m (taken m j) g (w.origins j h);
    ending = w.ending;
  }

  pub IsMember-idle : (s : State) → IsMember f inputs s idle
  IsMember-idle s = record {
    log = IsLog-none f inputs [] [] [] refl;
    rising = λ j k a h. absurd (omega arith);
    rounds = λ j k a h. absurd (omega arith);
    upto = λ k h. absurd (omega arith);
    above = λ k d h. absurd (omega arith);
    apart = λ j k a h. absurd (omega arith);
    differ = λ j k h i e. absurd (omega arith);
    origins = λ j h. absurd (omega arith);
    ending = λ e q. absurd (let z : None ≡ Some (emptied e) = q in cc);
  }

  module _ (s : State) (m : Member) (w : IsMember f inputs s m) where
    -- the member writes a line of this round
    module _ (x : Step) (may : MayWrite f m x) (fresh : IsFreshAfter f inputs (steps m) (handed m) x) where
      l : Learned
      l = record { round = s.round; step = x }

      more : Member
      more = record m { lines = m.lines ++ record { round = s.round; step = x } ∷ [] }

      old_line : (k : ℕ) → k < length m.lines → learned more k ≡ learned m k
      unfolding more l
      old_line k h = get_or_append_left m.lines (record { round = s.round; step = x } ∷ []) nothing k h

      new_line : (k : ℕ) → k ≡ length m.lines → learned more k ≡ record { round = s.round; step = x }
      unfolding more l
      new_line k e = ap (λ n. get_or (m.lines ++ record { round = s.round; step = x } ∷ []) n nothing) e ∙ get_or-append_seam m.lines (record { round = s.round; step = x }) [] nothing

      id_below : (k : ℕ) → k < length m.lines → (learned m k).step.id < x.id
      id_below k h =
          let inside : k < length (steps m) = omega (arith, length-map m.lines (λ (y : Learned). y.step)) in
          subst (λ (y : Step). y.id < x.id) (get_or-map (λ (y : Learned). y.step) m.lines k nothing no_step h) (All-get_or (λ (y : Step). y.id < x.id) (steps m) k no_step inside may.id.lines)

      taken_below : (j : ℕ) → j < length m.taken → (taken m j).handed.id < x.id
      taken_below j h =
          let inside : j < length (handed m) = omega (arith, length-map m.taken (λ (y : Taken). y.handed)) in
          subst (λ (y : Handed). y.id < x.id) (get_or-map (λ (y : Taken). y.handed) m.taken j no_taken (record { id = 0; clause = [] }) h) (All-get_or (λ (y : Handed). y.id < x.id) (handed m) j (record { id = 0; clause = [] }) inside may.id.handed)

      -- a fact of the new line and of the old ones
      by_line : (P : Learned → Type 0) → ((k : ℕ) → k < length m.lines → P (learned m k)) → P (record { round = s.round; step = x }) → (k : ℕ) → k < length more.lines → P (learned more k)
      unfolding more
      by_line P old new k h = elim (cases_lt k (length m.lines)) [
        | inl i ↦ subst P (sym (old_line k i)) (old k i)
        | inr i ↦ subst P (sym (new_line k (omega (arith, length_push m.lines (record { round = s.round; step = x }))))) new
      ]

      -- a fact of each line and each later one
      by_pair : (P : Learned → Learned → Type 0) → ((j k : ℕ) → j < k → k < length m.lines → P (learned m j) (learned m k)) → ((j : ℕ) → j < length m.lines → P (learned m j) (record { round = s.round; step = x })) → (j k : ℕ) → j < k → k < length more.lines → P (learned more j) (learned more k)
      unfolding more
      by_pair P old new j k a h =
          let size = length_push m.lines (record { round = s.round; step = x }) in
          let low : j < length m.lines = omega (arith, size) in
          subst (λ y. P y (learned more k)) (sym (old_line j low)) (elim (cases_lt k (length m.lines)) [
            | inl i ↦ subst (P (learned m j)) (sym (old_line k i)) (old j k a i)
            | inr i ↦ subst (P (learned m j)) (sym (new_line k (omega (arith, size)))) (new j low)
          ])

      pub IsMember-learns : m.ending ≡ None → IsMember f inputs s (record m { lines = m.lines ++ record { round = s.round; step = x } ∷ [] })
      unfolding more
      IsMember-learns going = record {
        log = subst (λ ss. IsLog f inputs (handed m) ss Running []) (sym (map_push (λ (y : Learned). y.step) m.lines (record { round = s.round; step = x }))) (IsLog-learn f inputs (handed m) (steps m) [] w.log x may.id may.within may.passes may.hints fresh);
        rising = by_pair (λ y z. y.step.id < z.step.id) w.rising id_below;
        rounds = by_pair (λ y z. y.round ≤ z.round) w.rounds w.upto;
        upto = by_line (λ y. y.round ≤ s.round) w.upto (omega arith);
        above = w.above;
        apart = w.apart;
        differ = λ j k h. by_line (λ y. (taken m j).handed.id ≡ y.step.id → ⊥) (λ i. w.differ j i h) (λ e. let b = taken_below j h in omega (arith, b, e)) k;
        origins = λ j h.
            let o = w.origins j h in
            record {
              at = o.at;
              clause = o.clause;
              old = o.old;
              before = by_line (λ y. (taken m j).handed.id < y.step.id → (line_of s (taken m j).origin).round < y.round) o.before (λ i. o.old);
            };
        ending = λ e q. absurd (let z : None ≡ Some (emptied e) = sym going ∙ q in cc);
      }

    pub IsMember-solves : (bits : List Bool) → IsMember f inputs s (record m { ending = Some (solved bits) })
    IsMember-solves bits = record {
      log = w.log;
      rising = w.rising;
      rounds = w.rounds;
      upto = w.upto;
      above = w.above;
      apart = w.apart;
      differ = w.differ;
      origins = λ j h. let o = w.origins j h in record { at = o.at; clause = o.clause; old = o.old; before = o.before };
      ending = λ e q. absurd (let z : Some (solved bits) ≡ Some (emptied e) = q in cc);
    }

    pub IsMember-refutes : (x : Step) → MayWrite f m x → x.clause ≡ [] → IsMember f inputs s (record m { ending = Some (emptied x) })
    IsMember-refutes x may empty = record {
      log = w.log;
      rising = w.rising;
      rounds = w.rounds;
      upto = w.upto;
      above = w.above;
      apart = w.apart;
      differ = w.differ;
      origins = λ j h. let o = w.origins j h in record { at = o.at; clause = o.clause; old = o.old; before = o.before };
      ending = λ e q. (let same : x ≡ e = let z : Some (emptied x) ≡ Some (emptied e) = q in cc in subst (λ (y : Step). PassesAfter f (steps m) (handed m) y × (NamesAll f (steps m) (handed m) y × (y.clause ≡ []))) same (may.passes, (may.hints, empty)));
    }

    -- clauses of lines of the round that ends are handed over to the member
    module _ (more : List Taken) (ids : (k : ℕ) (d : Taken) → k < length more → IsNewId f (steps m) (handed m ++ map (λ t. t.handed) (take k more)) (get_or more k d).handed.id) where
      -- each id is above all before it
      id_at : (k : ℕ) → length m.taken ≤ k → k < length (m.taken ++ more) → IsNewId f (steps m) (map (λ t. t.handed) (take k (m.taken ++ more))) (get_or (m.taken ++ more) k no_taken).handed.id
      id_at k low h =
          let q = k - length m.taken in
          let is : k ≡ length m.taken + q = omega arith in
          let inside : q < length more = omega (arith, length-append m.taken more) in
          let front : take k (m.taken ++ more) ≡ m.taken ++ take q more = ap (λ n. take n (m.taken ++ more)) is ∙ take-append-add m.taken more q in
          let all : handed m ++ map (λ t. t.handed) (take q more) ≡ map (λ t. t.handed) (take k (m.taken ++ more)) = sym (ap (map (λ (t : Taken). t.handed)) front ∙ map-append (λ (t : Taken). t.handed) m.taken (take q more)) in
          let last : get_or more q no_taken ≡ get_or (m.taken ++ more) k no_taken = sym (get_or-append_right m.taken more (length m.taken) k no_taken refl low) in
          subst (λ hs. IsNewId f (steps m) hs (get_or (m.taken ++ more) k no_taken).handed.id) all
          (subst (λ (t : Taken). IsNewId f (steps m) (handed m ++ map (λ t. t.handed) (take q more)) t.handed.id) last (ids q no_taken inside))

      log_upto : (n : ℕ) → n ≤ length more → IsLog f inputs (handed m ++ map (λ t. t.handed) (take n more)) (steps m) Running []
      log_upto zero h = subst (λ hs. IsLog f inputs hs (steps m) Running []) (sym (append-nil (handed m))) w.log
      log_upto (suc n) h =
          let t = get_or more n no_taken in
          let hs = handed m ++ map (λ t. t.handed) (take n more) in
          let next : hs ++ t.handed ∷ [] ≡ handed m ++ map (λ t. t.handed) (take (n + 1) more) =
          append_assoc (handed m) (map (λ t. t.handed) (take n more)) (t.handed ∷ [])
          ∙ ap (λ y. handed m ++ y) (sym (ap (map (λ (t : Taken). t.handed)) (take_more more n no_taken (omega arith)) ∙ map_push (λ (t : Taken). t.handed) (take n more) t)) in
          let one : n + 1 ≡ suc n = omega arith in
          subst (λ k. IsLog f inputs (handed m ++ map (λ t. t.handed) (take k more)) (steps m) Running []) one
          (subst (λ y. IsLog f inputs y (steps m) Running []) next
          (IsLog-import f inputs hs (steps m) Running [] t.handed (ids n no_taken (omega arith)).lines (log_upto n (omega arith))))

      log_all : IsLog f inputs (map (λ t. t.handed) (m.taken ++ more)) (steps m) Running []
      log_all =
          let all : handed m ++ map (λ t. t.handed) (take (length more) more) ≡ map (λ t. t.handed) (m.taken ++ more) =
          ap (λ y. handed m ++ map (λ (t : Taken). t.handed) y) (take_all (length more) more (omega arith)) ∙ sym (map-append (λ (t : Taken). t.handed) m.taken more) in
          subst (λ hs. IsLog f inputs hs (steps m) Running []) all (log_upto (length more) (omega arith))

      line_below : (k i : ℕ) → length m.taken ≤ k → k < length (m.taken ++ more) → i < length m.lines → (learned m i).step.id < (get_or (m.taken ++ more) k no_taken).handed.id
      line_below k i low h l =
          let n = (get_or (m.taken ++ more) k no_taken).handed.id in
          let inside : i < length (steps m) = omega (arith, length-map m.lines (λ (y : Learned). y.step)) in
          subst (λ (y : Step). y.id < n) (get_or-map (λ (y : Learned). y.step) m.lines i nothing no_step l) (All-get_or (λ (y : Step). y.id < n) (steps m) i no_step inside (id_at k low h).lines)

      old_taken : (j : ℕ) → j < length m.taken → get_or (m.taken ++ more) j no_taken ≡ taken m j
      old_taken j h = get_or_append_left m.taken more no_taken j h

      apart_all : (j k : ℕ) → j < k → k < length (m.taken ++ more) → (get_or (m.taken ++ more) j no_taken).handed.id < (get_or (m.taken ++ more) k no_taken).handed.id
      apart_all j k a h = elim (cases_lt k (length m.taken)) [
        | inl i ↦ subst (λ (y : Taken). y.handed.id < (get_or (m.taken ++ more) k no_taken).handed.id) (sym (old_taken j (omega arith))) (subst (λ (y : Taken). (taken m j).handed.id < y.handed.id) (sym (old_taken k i)) (w.apart j k a i))
        | inr i ↦
            (let n = (get_or (m.taken ++ more) k no_taken).handed.id in
            let front : length (take k (m.taken ++ more)) ≡ k = length-take-le k (m.taken ++ more) (omega arith) in
            let inside : j < length (map (λ (t : Taken). t.handed) (take k (m.taken ++ more))) = omega (arith, front, length-map (take k (m.taken ++ more)) (λ (t : Taken). t.handed)) in
            subst (λ (y : Handed). y.id < n)
            (get_or-map (λ (t : Taken). t.handed) (take k (m.taken ++ more)) j no_taken (record { id = 0; clause = [] }) (omega (arith, front)) ∙ ap (λ (t : Taken). t.handed) (get_or-take k (m.taken ++ more) j no_taken a))
            (All-get_or (λ (y : Handed). y.id < n) (map (λ t. t.handed) (take k (m.taken ++ more))) j (record { id = 0; clause = [] }) inside (id_at k i h).handed))
      ]

      differ_all : (j k : ℕ) → j < length (m.taken ++ more) → k < length m.lines → (get_or (m.taken ++ more) j no_taken).handed.id ≡ (learned m k).step.id → ⊥
      differ_all j k h l e = elim (cases_lt j (length m.taken)) [
        | inl i ↦ w.differ j k i l (sym (ap (λ (t : Taken). t.handed.id) (old_taken j i)) ∙ e)
        | inr i ↦ (let b = line_below j k i h l in omega (arith, b, e))
      ]

      above_all : (n : ℕ) → n ≤ length more → All (λ h. length f.clauses < h.id) (map (λ t. t.handed) (m.taken ++ take n more))
      above_all n h = subst (All (λ h. length f.clauses < h.id)) (sym (map-append (λ (t : Taken). t.handed) m.taken (take n more)))
          (All-append (λ h. length f.clauses < h.id) (handed m) (map (λ t. t.handed) (take n more)) w.above
          (All-map (λ h. length f.clauses < h.id) (λ (t : Taken). t.handed) (take n more) (λ k d l.
          let size = length-take-le n more h in
          let inside : k < n = omega (arith, size) in
          subst (λ (t : Taken). length f.clauses < t.handed.id) (sym (get_or-take n more k d inside)) (ids k d (omega arith)).formula)))

      names_stay : (id : ℕ) (c : List Literal) → NamesAtHand f.clauses (steps m) (handed m) id c → NamesAtHand f.clauses (steps m) (map (λ t. t.handed) (m.taken ++ more)) id c
      names_stay id c n = elim n [
        | inl a ↦ inl a
        | inr x ↦ inr (x.0, (subst (λ hs. Contains hs x.0) (sym (map-append (λ (t : Taken). t.handed) m.taken more)) (Contains-append_left (handed m) (map (λ t. t.handed) more) x.0 x.1.0), x.1.1, x.1.2))
      ]

      pub IsMember-takes : (new : State) → Grows s new → new.round ≡ s.round + 1
          → ((k : ℕ) → k < length more → IsLine s (get_or more k no_taken).origin × (((line_of s (get_or more k no_taken).origin).round ≡ s.round) × ((get_or more k no_taken).handed.clause ≡ (line_of s (get_or more k no_taken).origin).step.clause)))
          → IsMember f inputs new (record m { taken = m.taken ++ more })
      IsMember-takes new g next from = record {
        log = log_all;
        rising = w.rising;
        rounds = w.rounds;
        upto = λ k h. let a = w.upto k h in let b = g.round in omega arith;
        above = subst (λ y. All (λ h. length f.clauses < h.id) (map (λ t. t.handed) (m.taken ++ y))) (take_all (length more) more (omega arith)) (above_all (length more) (omega arith));
        apart = apart_all;
        differ = differ_all;
        origins = λ j h. elim (cases_lt j (length m.taken)) [
          | inl i ↦
              (let o = IsOrigin-grows s new m (taken m j) g (w.origins j i) in
              subst (λ (t : Taken). IsOrigin new (record m { taken = m.taken ++ more }) t) (sym (old_taken j i)) (record { at = o.at; clause = o.clause; old = o.old; before = o.before }))
          | inr i ↦
              (let q = j - length m.taken in
              let inside : q < length more = omega (arith, length-append m.taken more) in
              let t = get_or more q no_taken in
              let is : t ≡ get_or (m.taken ++ more) j no_taken = sym (get_or-append_right m.taken more (length m.taken) j no_taken refl i) in
              let o = from q inside in
              let grown = g.lines t.origin o.0 in
              subst (λ (t : Taken). IsOrigin new (record m { taken = m.taken ++ more }) t) is (record {
                at = grown.0;
                clause = o.1.1 ∙ ap (λ (l : Learned). l.step.clause) (sym grown.1);
                old = let e = ap (λ (l : Learned). l.round) grown.1 in let u = o.1.0 in omega (arith, e, u, next);
                before = λ k l b. absurd (let x = line_below j k i h l in let z = ap (λ (t : Taken). t.handed.id) is in omega (arith, x, b, z));
              }))
        ];
        ending = λ e q.
            let p = w.ending e q in
            let after = NamesAtHand f.clauses (steps m) (map (λ t. t.handed) (m.taken ++ more)) in (
              (p.0.0, Leads-more (NamesAtHand f.clauses (steps m) (handed m)) after names_stay e.hints (map negated e.clause) p.0.1),
              (λ k d h. let x = p.1.0 k d h in (x.0, (x.1.0, names_stay (get_or e.hints k d) x.1.0 x.1.1)), p.1.1),
            );
      }
