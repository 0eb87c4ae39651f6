-- the steps of the walk, with the workspace
use Rattle.std.proofs.Common.{◌≡◌, ◌⊎◌, inl, inr, ℕ, ◌+◌, ◌-◌, ◌<◌, ◌≤◌, List, [], ◌∷◌, ◌++◌, length, take, sym, ◌∙◌, ap, subst, arith}
use Rattle.std.specs.Prelude.{Contains, None}
use Rattle.std.proofs.lemmas.List.Elements.{All-contains}
use Rattle.rr_cnf.specs.Clauses.{Literal, negated}
use Rattle.rr_cnf.specs.Partial.{IsFalse}
use Rattle.rr_derive.proofs.MarkLaws.{All-from_contains}
use Rattle.rr_trail.specs.Trails.{Entry, IsTrail, Reason, entry, lits}
use Rattle.rr_watch.specs.Watches.{Named, State}
use Rattle.rr_trail.proofs.EntryLaws.{length_lits, lit_at, place_of}
use Rattle.rr_analysis.specs.Analysis.{IsMarked}
use Rattle.rr_analysis.specs.Workspaces.{HaveOwnVars, IsBegun, IsReady, KeepsWalk, Met, PopsLast, StandsBelow, Waits, Work, var_at}
use Rattle.rr_analysis.proofs.Walk.{Walk, Walk-keep, Walk-over, Walk-resolve, Walk-start, one_place, place_before}
use Rattle.rr_analysis.proofs.Waiting.{Waits-none, Waits-pop, none_between, popped}

pub var_is : (t : List Entry) (k : ℕ) → k < length t → var_at (lits t) k ≡ (entry t k).lit.var
var_is t k h = ap (λ (l : Literal). l.var) (lit_at t k _ h)

pub own_vars : (t : List Entry) (d : ℕ) → IsTrail t d → HaveOwnVars (lits t)
own_vars t d tr j k a b e =
    let size = length_lits t in
    let x : j < length t = omega (arith, size) in
    let y : k < length t = omega (arith, size) in
    one_place t d tr j k x y (sym (var_is t j x) ∙ e ∙ var_is t k y)

-- where the walk stands
pub record Stand (s : State) (why : Entry → Type 0) (c : List Literal) (hints : List ℕ) (w : Work) : Type 0 where
  pub long : length w.seen ≡ s.vars + 1
  pub walk : Walk (Named s.clauses) s.trail why w.top c w.seen hints
  pub waits : Waits (lits s.trail) w.top w.seen w.waiting

module _ (s : State) (why : Entry → Type 0) (tr : IsTrail s.trail s.depth) where
  long_lits : length (lits s.trail) ≡ length s.trail
  long_lits = length_lits s.trail

  pub ready_of : (c : List Literal) (hints : List ℕ) (w : Work) → Stand s why c hints w → IsReady s.vars w
  ready_of c hints w a = a.long

  stands_at : (k : ℕ) (w : Work) (l : Literal) (j : ℕ) → j < k → k ≤ length s.trail → (entry s.trail j).lit ≡ negated l → StandsBelow (lits s.trail) k w.seen l.var
  stands_at k w l j a h e = inr (j, (a, var_is s.trail j (omega arith) ∙ ap (λ (x : Literal). x.var) e))

  -- the false clause is met
  module _ (id : ℕ) (c : List Literal) (named : Named s.clauses id c) (false_now : IsFalse (lits s.trail) c) (old mid new : Work) (ready : IsReady s.vars old) (begun : IsBegun (length (lits s.trail)) old mid) (keeps : KeepsWalk mid new) (met : Met (lits s.trail) mid c new) where
    pub Stand-start : Stand s why [] (id ∷ []) new
    Stand-start = record {
      long = keeps.long ∙ begun.long ∙ ready;
      walk = subst (λ k. Walk (Named s.clauses) s.trail why k [] new.seen (id ∷ [])) (sym (keeps.top ∙ begun.top ∙ long_lits)) (Walk-start (Named s.clauses) s.trail s.depth why id c mid.seen new.seen named false_now begun.none met.marked tr);
      waits = subst (λ k. Waits (lits s.trail) k new.seen new.waiting) (sym (keeps.top ∙ begun.top)) (met.waits (length (lits s.trail)) (omega arith) (own_vars s.trail s.depth tr)
          (All-from_contains (λ l. StandsBelow (lits s.trail) (length (lits s.trail)) mid.seen l.var) c (λ l m. let p = place_of s.trail (negated l) (All-contains (λ x. Contains (lits s.trail) (negated x)) c l false_now m) in stands_at (length (lits s.trail)) mid l p.0 (omega (arith, p.1.0, long_lits)) (omega (arith, long_lits)) p.1.1))
          (subst (Waits (lits s.trail) (length (lits s.trail)) mid.seen) (sym begun.waiting) (Waits-none (lits s.trail) (length (lits s.trail)) mid.seen begun.none)));
    }

  -- the last place that waits is walked to
  module _ (c : List Literal) (hints : List ℕ) (old : Work) (a : Stand s why c hints old) (p : ℕ) (mid : Work) (pops : PopsLast old p mid) where
    pub inside : p < length s.trail
    inside = let x = (popped old mid p pops (lits s.trail) old.top a.waits).0 in let y = a.walk.inside in omega arith

    pub lower : mid.top < old.top
    lower = let x = (popped old mid p pops (lits s.trail) old.top a.waits).0 in omega (arith, x, pops.top)

    pub marked : IsMarked mid.seen (entry s.trail p).lit.var
    marked = subst (λ m. IsMarked m (entry s.trail p).lit.var) (sym pops.seen) (subst (IsMarked old.seen) (var_is s.trail p inside) (popped old mid p pops (lits s.trail) old.top a.waits).1)

    walk_to : Walk (Named s.clauses) s.trail why (p + 1) c mid.seen hints
    walk_to =
        let low = (popped old mid p pops (lits s.trail) old.top a.waits).0 in
        let e : old.top ≡ p + 1 + (old.top - (p + 1)) = omega (arith, low) in
        subst (λ m. Walk (Named s.clauses) s.trail why (p + 1) c m hints) (sym pops.seen)
        (Walk-over (Named s.clauses) s.trail s.depth why tr c old.seen hints (old.top - (p + 1)) (p + 1) (subst (λ k. Walk (Named s.clauses) s.trail why k c old.seen hints) e a.walk)
        (λ j b h m. none_between old mid p pops (lits s.trail) old.top a.waits j (omega (arith, b)) (omega (arith, h, low)) (subst (IsMarked old.seen) (sym (var_is s.trail j (let i = a.walk.inside in omega (arith, h, low, i)))) m)))

    -- its negation is kept
    pub Stand-keep : why (entry s.trail p) → Stand s why (c ++ negated (entry s.trail p).lit ∷ []) hints mid
    Stand-keep for = record {
      long = ap length pops.seen ∙ a.long;
      walk = subst (λ k. Walk (Named s.clauses) s.trail why k (c ++ negated (entry s.trail p).lit ∷ []) mid.seen hints) (sym pops.top) (Walk-keep (Named s.clauses) s.trail s.depth why tr p c mid.seen hints walk_to marked for);
      waits = subst (λ k. Waits (lits s.trail) k mid.seen mid.waiting) (sym pops.top) (Waits-pop old mid p pops (lits s.trail) old.top a.waits);
    }

    -- its reason is resolved with
    pub Stand-resolve : (id : ℕ) (r : Reason (Named s.clauses) s.trail p id) (new : Work) → KeepsWalk mid new → Met (lits s.trail) mid r.clause new → Stand s why c (hints ++ id ∷ []) new
    Stand-resolve id r new keeps met = record {
      long = keeps.long ∙ ap length pops.seen ∙ a.long;
      walk = subst (λ k. Walk (Named s.clauses) s.trail why k c new.seen (hints ++ id ∷ [])) (sym (keeps.top ∙ pops.top)) (Walk-resolve (Named s.clauses) s.trail s.depth why tr p c mid.seen hints walk_to id r.clause new.seen marked r.name r.forces met.marked);
      waits = subst (λ k. Waits (lits s.trail) k new.seen new.waiting) (sym (keeps.top ∙ pops.top)) (met.waits p (omega (arith, inside, long_lits)) (own_vars s.trail s.depth tr)
          (All-from_contains (λ l. StandsBelow (lits s.trail) p mid.seen l.var) r.clause (λ l m. elim (All-contains (λ y. (y ≡ (entry s.trail p).lit) ⊎ Contains (lits (take p s.trail)) (negated y)) r.clause l r.forces.others m) [
            | inl e ↦ inl (subst (IsMarked mid.seen) (ap (λ (x : Literal). x.var) (sym e)) marked)
            | inr b ↦ (let q = place_before s.trail p (negated l) (omega (arith, inside)) b in stands_at p mid l q.0 q.1.0 (omega (arith, inside)) q.1.1)
          ]))
          (Waits-pop old mid p pops (lits s.trail) old.top a.waits));
    }

  -- nothing waits
  pub Walk-end : (c : List Literal) (hints : List ℕ) (w : Work) → Stand s why c hints w → w.waiting ≡ [] → Walk (Named s.clauses) s.trail why 0 c w.seen hints
  Walk-end c hints w a none = Walk-over (Named s.clauses) s.trail s.depth why tr c w.seen hints w.top 0 (subst (λ k. Walk (Named s.clauses) s.trail why k c w.seen hints) (omega arith) a.walk)
      (λ j b h m.
      let i = a.walk.inside in
      let e = a.waits.each j (omega arith) (subst (IsMarked w.seen) (sym (var_is s.trail j (omega arith))) m) in
      let z = ap length none in
      absurd (subst (λ xs. Rattle.rr_analysis.specs.Workspaces.copies xs j ≡ 1 → ⊥) (sym none) (λ q. omega (arith, q)) e))

-- as many marks serve as many variables
pub ready_same : (u v : ℕ) (w : Work) → v ≡ u → IsReady u w → IsReady v w
ready_same u v w e r = r ∙ ap (λ n. n + 1) (sym e)
