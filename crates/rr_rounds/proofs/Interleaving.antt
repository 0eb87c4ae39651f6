-- what moves come to depends on the events of each member alone
use Rattle.std.proofs.Common.{◌≡◌, ◌⊎◌, inl, inr, ℕ, ◌<◌, ◌≤◌, ◌==◌, List, [], ◌∷◌, length, map, filter, refl, sym, ◌∙◌, ap, subst, arith}
use Rattle.std.proofs.lemmas.Bool.{cases_eq, cases_lt, cond-true, cond-false, eq-eqb, ne_eqb}
use Rattle.std.proofs.lemmas.List.{ext_get_or, length-set}
use Rattle.rr_cnf.specs.Clauses.{Clauses}
use Rattle.rr_rounds.specs.States.{State, idle, member}
use Rattle.rr_rounds.specs.Rounds.{AreMoves, May, Move, after, events_of, moved, moved_all}
use Rattle.rr_rounds.specs.Rounds.{MayAll, after_all}
use Rattle.rr_rounds.proofs.Reaching.{member_moved, member_other}

-- a move of the member is its first event, and a move of another one is none
own_event : (m : ℕ) (v : Move) (vs : List Move) → v.member ≡ m → events_of m (v ∷ vs) ≡ v.event ∷ events_of m vs
own_event m v vs e = ap (map (λ (x : Move). x.event)) (cond-true (v.member == m) (v ∷ filter (λ x. x.member == m) vs) (filter (λ x. x.member == m) vs) (eq-eqb v.member m e))

other_event : (m : ℕ) (v : Move) (vs : List Move) → (v.member ≡ m → ⊥) → events_of m (v ∷ vs) ≡ events_of m vs
other_event m v vs ne = ap (map (λ (x : Move). x.event)) (cond-false (v.member == m) (v ∷ filter (λ x. x.member == m) vs) (filter (λ x. x.member == m) vs) (ne_eqb v.member m ne))

-- the member makes its own events
module _ (f : Clauses) (inputs : ℕ) where
  member_after : (s : State) (m : ℕ) (vs : List Move) → AreMoves f inputs s vs → member (moved_all s vs) m ≡ after_all s.round (member s m) (events_of m vs)
  member_after s m [] a = refl
  member_after s m (v ∷ vs) a = by_cases (member_after (moved s v) m vs a.1) (cases_eq v.member m)
    where
      by_cases : member (moved_all (moved s v) vs) m ≡ after_all s.round (member (moved s v) m) (events_of m vs) → ((v.member ≡ m) ⊎ (v.member ≡ m → ⊥)) → member (moved_all (moved s v) vs) m ≡ after_all s.round (member s m) (events_of m (v ∷ vs))
      by_cases rest (inl e) =
          let new : member (moved s v) m ≡ after s.round (member s m) v.event = ap (member (moved s v)) (sym e) ∙ member_moved s v a.0.0 ∙ ap (λ k. after s.round (member s k) v.event) e in
          rest ∙ ap (λ x. after_all s.round x (events_of m vs)) new ∙ ap (after_all s.round (member s m)) (sym (own_event m v vs e))
      by_cases rest (inr ne) =
          rest ∙ ap (λ x. after_all s.round x (events_of m vs)) (member_other s v a.0.0 m (λ e. ne (sym e))) ∙ ap (after_all s.round (member s m)) (sym (other_event m v vs ne))

  may_each : (s : State) (m : ℕ) (vs : List Move) → AreMoves f inputs s vs → MayAll f inputs s.round (member s m) (events_of m vs)
  may_each s m [] a = tt
  may_each s m (v ∷ vs) a = by_cases (may_each (moved s v) m vs a.1) (cases_eq v.member m)
    where
      by_cases : MayAll f inputs s.round (member (moved s v) m) (events_of m vs) → ((v.member ≡ m) ⊎ (v.member ≡ m → ⊥)) → MayAll f inputs s.round (member s m) (events_of m (v ∷ vs))
      by_cases rest (inl e) =
          let new : member (moved s v) m ≡ after s.round (member s m) v.event = ap (member (moved s v)) (sym e) ∙ member_moved s v a.0.0 ∙ ap (λ k. after s.round (member s k) v.event) e in
          subst (MayAll f inputs s.round (member s m)) (sym (own_event m v vs e)) (subst (λ k. May f inputs (member s k) v.event) e a.0.1, subst (λ x. MayAll f inputs s.round x (events_of m vs)) new rest)
      by_cases rest (inr ne) =
          subst (MayAll f inputs s.round (member s m)) (sym (other_event m v vs ne)) (subst (λ x. MayAll f inputs s.round x (events_of m vs)) (member_other s v a.0.0 m (λ e. ne (sym e))) rest)

  -- and moves are what each member may do
  are_moves : (s : State) (vs : List Move) → ((m : ℕ) → MayAll f inputs s.round (member s m) (events_of m vs)) → ((m : ℕ) → length s.members ≤ m → events_of m vs ≡ []) → AreMoves f inputs s vs
  are_moves s [] may none = tt
  are_moves s (v ∷ vs) may none =
      let own = own_event v.member v vs refl in
      let first = subst (MayAll f inputs s.round (member s v.member)) own (may v.member) in
      let low = inside (cases_lt v.member (length s.members)) in
      let size = length-set s.members v.member (after s.round (member s v.member) v.event) in
      ((low, first.0), are_moves (moved s v) vs (λ m. by_cases m low first.1 (cases_eq v.member m)) (λ m h. later m (omega (arith, h, size)) (cases_eq v.member m)))
    where
      inside : ((v.member < length s.members) ⊎ (length s.members ≤ v.member)) → v.member < length s.members
      inside (inl l) = l
      inside (inr h) = absurd (let z : v.event ∷ events_of v.member vs ≡ [] = sym (own_event v.member v vs refl) ∙ none v.member h in cc)

      by_cases : (m : ℕ) → v.member < length s.members → MayAll f inputs s.round (after s.round (member s v.member) v.event) (events_of v.member vs) → ((v.member ≡ m) ⊎ (v.member ≡ m → ⊥)) → MayAll f inputs s.round (member (moved s v) m) (events_of m vs)
      by_cases m low rest (inl e) = subst (λ k. MayAll f inputs s.round (member (moved s v) k) (events_of k vs)) e (subst (λ x. MayAll f inputs s.round x (events_of v.member vs)) (sym (member_moved s v low)) rest)
      by_cases m low rest (inr ne) = subst (λ x. MayAll f inputs s.round x (events_of m vs)) (sym (member_other s v low m (λ e. ne (sym e)))) (subst (MayAll f inputs s.round (member s m)) (other_event m v vs ne) (may m))

      later : (m : ℕ) → length s.members ≤ m → ((v.member ≡ m) ⊎ (v.member ≡ m → ⊥)) → events_of m vs ≡ []
      later m h (inl e) = absurd (let z : v.event ∷ events_of m vs ≡ [] = sym (own_event m v vs e) ∙ none m h in cc)
      later m h (inr ne) = sym (other_event m v vs ne) ∙ none m h

  -- there are no events of members that there are not
  no_events : (s : State) (m : ℕ) (vs : List Move) → AreMoves f inputs s vs → length s.members ≤ m → events_of m vs ≡ []
  no_events s m [] a h = refl
  no_events s m (v ∷ vs) a h =
      let low = a.0.0 in
      let size = length-set s.members v.member (after s.round (member s v.member) v.event) in
      other_event m v vs (omega (arith, low, h)) ∙ no_events (moved s v) m vs a.1 (omega (arith, h, size))

same_size : (s : State) (vs : List Move) → length (moved_all s vs).members ≡ length s.members
same_size s [] = refl
same_size s (v ∷ vs) = same_size (moved s v) vs ∙ length-set s.members v.member (after s.round (member s v.member) v.event)

same_round : (s : State) (vs : List Move) → (moved_all s vs).round ≡ s.round
same_round s [] = refl
same_round s (v ∷ vs) = same_round (moved s v) vs

same_state : (s t : State) → s.round ≡ t.round → s.members ≡ t.members → s ≡ t
same_state s t p q = ap (λ r. record { round = r; members = s.members }) p ∙ ap (λ ms. record { round = t.round; members = ms }) q

pub order_is_free : (f : Clauses) (inputs : ℕ) (s : State) (us vs : List Move) → AreMoves f inputs s us
    → ((m : ℕ) → events_of m vs ≡ events_of m us)
    → AreMoves f inputs s vs × (moved_all s vs ≡ moved_all s us)
order_is_free f inputs s us vs a same =
    let b = are_moves f inputs s vs
    (λ m. subst (MayAll f inputs s.round (member s m)) (sym (same m)) (may_each f inputs s m us a))
    (λ m h. same m ∙ no_events f inputs s m us a h) in (
      b,
      same_state (moved_all s vs) (moved_all s us)
          (same_round s vs ∙ sym (same_round s us))
          (ext_get_or idle (moved_all s vs).members (moved_all s us).members (same_size s vs ∙ sym (same_size s us))
          (λ m h. member_after f inputs s m vs b ∙ ap (after_all s.round (member s m)) (same m) ∙ sym (member_after f inputs s m us a))),
    )
