-- what the lines of a search come to
use Rattle.std.proofs.Common.{◌≡◌, ◌⊎◌, inl, inr, ℕ, ◌-◌, ◌*◌, ◌^◌, ◌<◌, ◌≤◌, Bool, true, false, cond, List, [], ◌∷◌, length, get_or, map, take, sym, ◌∙◌, ap, subst, arith}
use Rattle.std.specs.Prelude.{Contains, Err, IfOk, Ok, Result, filter, nat_lt}
use Rattle.std.specs.declared.alloc.AllocError.{AllocError}
use Rattle.std.proofs.lemmas.List.{length-map, get_or-map, get_or_default}
use Rattle.std.proofs.lemmas.List.Elements.{All-contains, Contains-append_left, Contains-append_right, Contains-append_cases, Contains-push, Contains-push_cases, Contains-get_or, filter_passes}
use Rattle.std.proofs.lemmas.Bool.{ltb-true, lt-ltb}
use Rattle.rr_cnf.specs.Clauses.{Clauses, negated}
use Rattle.rr_derive.specs.Derive.{Derives, IsRising, Names, Passes, Refutes, Step}
use Rattle.rr_derive.specs.Fresh.{Fresh, Handed, NamesAtHand, IsFreshLine}
use Rattle.rr_derive.proofs.Few.{few}
use Rattle.rr_solver.specs.Searches.{IsLog, IsLogOf, Search, SteppedIs, before, held_of, line}
use Rattle.rr_solver.specs.declared.engine.Stepped.{Stepped}
use Rattle.rr_solver.specs.declared.engine.Stepped.TheVariants.{Learned as HasLearned, Model as HasModel, Refuted as HasRefuted}
use Rattle.rr_solver.specs.Outcomes.{AreLines, nothing_handed}
use Rattle.rr_solver.specs.declared.engine.Status.{Status}
use Rattle.rr_solver.specs.declared.engine.Status.TheVariants.{Refuted}
use Rattle.rr_solver.proofs.EngineSteps.{Leads-more}
use Rattle.rr_solver.proofs.LogSteps.{from_before}

cons_cases : {X : Type 0} (x : X) (xs : List X) (l : X) → Contains (x ∷ xs) l → (x ≡ l) ⊎ Contains xs l
cons_cases x xs l c = elim (Contains-append_cases (x ∷ []) xs l c) [
  | inl a ↦ elim (Contains-push_cases [] x l a) [ inl z ↦ absurd (omega (arith, z.1)) | inr e ↦ inl e ]
  | inr b ↦ inr b
]

-- what passes the test stays in a filter
in_filter : {X : Type 0} (p : X → Bool) (xs : List X) (x : X) → Contains xs x → p x ≡ true → Contains (filter p xs) x
in_filter p [] x c e = absurd (omega (arith, c.1))
in_filter p (y ∷ ys) x c e = by_cases (cons_cases y ys x c) (λ m. in_filter p ys x m e)
  where
    either : (b : Bool) → Contains (filter p ys) x → Contains (cond b (y ∷ filter p ys) (filter p ys)) x
    either true m = Contains-append_right (y ∷ []) (filter p ys) x m
    either false m = m

    by_cases : ((y ≡ x) ⊎ Contains ys x) → (Contains ys x → Contains (filter p ys) x) → Contains (cond (p y) (y ∷ filter p ys) (filter p ys)) x
    by_cases (inl q) later =
        let test : p y ≡ true = ap p q ∙ e in
        subst (λ b. Contains (cond b (y ∷ filter p ys) (filter p ys)) x) (sym test) (subst (Contains (y ∷ filter p ys)) q (Contains-append_left (y ∷ []) (filter p ys) y (Contains-push [] y)))
    by_cases (inr m) later = either (p y) (later m)

before_stays : (n m : ℕ) (hs : List Handed) (h : Handed) → n ≤ m → Contains (before n hs) h → Contains (before m hs) h
before_stays n m hs h le c =
    let passes : nat_lt h.id n ≡ true = All-contains (λ (x : Handed). nat_lt x.id n ≡ true) (before n hs) h (filter_passes (λ x. nat_lt x.id n) hs) c in
    let low : h.id < n = ltb-true h.id n passes in
    in_filter (λ x. nat_lt x.id m) hs h (from_before n hs h c) (lt-ltb h.id m (omega (arith, low)))

abbrev no_line : Step
no_line = record { id = 0; clause = []; hints = [] }

module _ (f : Clauses) (inputs : ℕ) (hs : List Handed) (lines : List Step) (status : Status) (bits : List Bool) (log : IsLog f inputs hs lines status bits) where
  held_at : (k : ℕ) → k < length lines → get_or (held_of hs lines) k [] ≡ before (line lines k).id hs
  held_at k h = get_or-map (λ s. before s.id hs) lines k no_line [] h

  pub all_fresh : IsRising lines → (status ≡ Refuted → ⊥) → Fresh f.clauses inputs (held_of hs lines) lines
  all_fresh rising n = record {
    count = length-map lines (λ (s : Step). before s.id hs);
    stays = λ j k h a b c.
        let low : (line lines j).id < (line lines k).id = rising j k no_line no_line a b in
        subst (λ x. Contains x h) (sym (held_at k b)) (before_stays (line lines j).id (line lines k).id hs h (omega (arith, low)) (subst (λ x. Contains x h) (held_at j (omega arith)) c));
    each = λ k d h.
        subst (λ x. IsFreshLine f.clauses inputs (take k lines) x (get_or lines k d)) (sym (held_at k h))
        (subst (IsFreshLine f.clauses inputs (take k lines) (before (line lines k).id hs)) (get_or_default lines k no_line d h) (log.fresh k h (λ q. absurd (n q))));
  }

-- without clauses that were handed over
module _ (f : Clauses) (inputs : ℕ) (lines : List Step) (status : Status) (bits : List Bool) (log : IsLog f inputs [] lines status bits) where
  pub all_derive : Derives f.clauses lines
  all_derive k h d =
      let p = log.passes k h in
      let q : Passes (Names f.clauses (take k lines)) (line lines k).clause (line lines k).hints = (p.0, Leads-more (NamesAtHand f.clauses (take k lines) []) (Names f.clauses (take k lines)) (λ id c n. elim n [ inl a ↦ a | inr x ↦ absurd (omega (arith, x.1.0.1)) ]) (line lines k).hints (map negated (line lines k).clause) p.1) in
      subst (λ s. Passes (Names f.clauses (take k lines)) s.clause s.hints) (get_or_default lines k no_line d h) q

  pub are_lines : AreLines f lines
  are_lines = record { above = log.above; within = log.within }

  pub all_refute : status ≡ Refuted → Refutes f.clauses lines
  all_refute r =
      let e = log.refuted r in
      (all_derive, (line lines (length lines - 1), (Contains-get_or lines (length lines - 1) no_line (omega (arith, e.0)), e.1)))

-- the outcome of a search alone
pub refuted_of : (f : Clauses) (s : Search) (lines : List Step) → IsLogOf s → s.status ≡ Refuted → s.formula ≡ f → s.handed ≡ [] → lines ≡ s.lines → Refutes f.clauses lines × AreLines f lines
refuted_of f s lines log r e h l =
    let a = subst (λ x. IsLog x s.inputs s.handed s.lines s.status s.bits) e log in
    let b = subst (λ x. IsLog f s.inputs x s.lines s.status s.bits) h a in
    let c = subst (λ x. IsLog f s.inputs [] x s.status s.bits) (sym l) b in
    (all_refute f s.inputs lines s.status s.bits c r, are_lines f s.inputs lines s.status s.bits c)

pub spent_of : (f : Clauses) (inputs budget : ℕ) (s : Search) (lines : List Step) → IsLogOf s → Fresh s.formula.clauses s.inputs (held_of s.handed s.lines) s.lines → s.formula ≡ f → s.inputs ≡ inputs → s.handed ≡ [] → lines ≡ s.lines → length s.lines ≡ budget
    → (length lines ≡ budget) × Derives f.clauses lines × Fresh f.clauses inputs (nothing_handed lines) lines × (budget ≤ inputs * 3 ^ inputs) × AreLines f lines
spent_of f inputs budget s lines log fresh e i h l long =
    let a = subst (λ x. IsLog x s.inputs s.handed s.lines s.status s.bits) e log in
    let b = subst (λ x. IsLog f s.inputs x s.lines s.status s.bits) h a in
    let c = subst (λ x. IsLog f s.inputs [] x s.status s.bits) (sym l) b in
    let p = subst (λ x. Fresh x.clauses s.inputs (held_of s.handed s.lines) s.lines) e fresh in
    let q = subst (λ x. Fresh f.clauses x (held_of s.handed s.lines) s.lines) i p in
    let r = subst (λ x. Fresh f.clauses inputs (held_of x s.lines) s.lines) h q in
    let t : Fresh f.clauses inputs (nothing_handed lines) lines = subst (λ x. Fresh f.clauses inputs (held_of [] x) x) (sym l) r in
    let size : length lines ≡ budget = ap length l ∙ long in
    (size, all_derive f s.inputs lines s.status s.bits c, t, (let w = few f.clauses inputs (nothing_handed lines) lines t in omega (arith, w, size)), are_lines f s.inputs lines s.status s.bits c)

-- a step does not ask which decisions stood
pub stepped_from : (old mid new : Search) (d : ℕ) (r : Result Stepped AllocError) → mid ≡ record { formula = old.formula; inputs = old.inputs; lines = old.lines; handed = old.handed; depth = d; status = old.status; bits = old.bits } → IfOk r (SteppedIs mid new) → IfOk r (SteppedIs old new)
stepped_from old mid new d r e p = by_cases r (subst (λ m. IfOk r (SteppedIs m new)) e p)
  where
    by_step : (x : Stepped) → SteppedIs (record { formula = old.formula; inputs = old.inputs; lines = old.lines; handed = old.handed; depth = d; status = old.status; bits = old.bits }) new x → SteppedIs old new x
    by_step HasLearned q = q
    by_step HasModel q = q
    by_step HasRefuted q = q

    by_cases : (r : Result Stepped AllocError) → IfOk r (SteppedIs (record { formula = old.formula; inputs = old.inputs; lines = old.lines; handed = old.handed; depth = d; status = old.status; bits = old.bits }) new) → IfOk r (SteppedIs old new)
    by_cases (Ok x) q = by_step x q
    by_cases (Err x) q = q
