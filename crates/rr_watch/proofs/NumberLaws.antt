-- clauses with the numbers of their places
use Rattle.std.proofs.Common.{◌≡◌, ◌⊎◌, inl, inr, ℕ, ◌+◌, ◌-◌, ◌<◌, List, [], ◌∷◌, ◌++◌, length, get_or, take, sym, ◌∙◌, ap, subst, arith}
use Rattle.std.specs.Prelude.{All, Some, None, slice_get}
use Rattle.std.proofs.lemmas.List.{length-take-le, length-map, get_or-map}
use Rattle.std.proofs.lemmas.List.Elements.{All-contains, Contains-get_or}
use Rattle.std.proofs.lemmas.Option.{slice_get-get_or, get_or_from_slice_get}
use Rattle.std.proofs.lemmas.Bool.{cases_lt}
use Rattle.rr_cnf.specs.Clauses.{Clauses, Literal, IsWithin}
use Rattle.rr_cnf.specs.Codes.{code_of}
use Rattle.rr_watch_lists.specs.WatchLists.{IsListed}
use Rattle.rr_watch.specs.Watches.{IsPair, Named, AreHeld}
use Rattle.rr_watch_lists.specs.Numbers.{Numbered, numbered_from}
use Rattle.rr_watch_lists.specs.Holdings.{Adds, all_numbered, held_at, numbered}
use Rattle.rr_watch.specs.declared.propagator.Propagator.{Propagator}
use Rattle.rr_watch.specs.Lists.{IsLong, Whole, first_of, second_of}
use Rattle.rr_watch_lists.specs.Lists.{list_at}
use Rattle.rr_trail.proofs.EntryLaws.{All-from_contains}
use Rattle.rr_watch_lists.proofs.HandLaws.{numbered_length}
use Rattle.rr_watch_lists.proofs.NumberLaws.{below_next, numbered_more}
use Rattle.rr_watch_lists.specs.declared.hand.Source.TheVariants.{OfFormula}
use Rattle.rr_watch.proofs.WantLaws.{named_place}

pub not_missing : (cs : List (List Literal)) (i : ℕ) → i < length cs → None ≡ slice_get cs (i + 1 - 1) → ⊥
not_missing cs i h e =
    let at : i + 1 - 1 ≡ i = omega arith in
    let z : None ≡ Some (get_or cs i []) = e ∙ ap (slice_get cs) at ∙ slice_get-get_or cs i [] h in cc

-- what callers may know of the clauses
pub are_held : (p : Propagator) → Whole p → AreHeld p.trail.vars (all_numbered p.hand.held)
are_held p w = record {
  within = All-from_contains (λ (n : Numbered). All (IsWithin p.trail.vars) n.clause) (all_numbered p.hand.held) (λ n m.
      let k = named_place p.hand.held n.id n.clause m in
      subst (All (IsWithin p.trail.vars)) k.1.2 (w.within k.0 k.1.0));
  rising = λ j k d e a b.
      let kb : k < length p.hand.held = omega (arith, length-map p.hand.held numbered) in
      let jb : j < length p.hand.held = omega arith in
      let x : (get_or (all_numbered p.hand.held) j d).id ≡ (held_at p.hand.held j).id = ap (λ n. n.id) (get_or-map numbered p.hand.held j _ d jb) in
      let y : (get_or (all_numbered p.hand.held) k e).id ≡ (held_at p.hand.held k).id = ap (λ n. n.id) (get_or-map numbered p.hand.held k _ e kb) in
      let z = w.rising j k a kb in
      omega (arith, x, y, z);
}

-- one id, one place
pub one_place : (p : Propagator) → Whole p → (j k : ℕ) → j < length p.hand.held → k < length p.hand.held → (held_at p.hand.held j).id ≡ (held_at p.hand.held k).id → j ≡ k
one_place p w j k a b e = elim (cases_lt j k) [
  | inl x ↦ absurd (let z = w.rising j k x b in omega (arith, z, e))
  | inr x ↦ elim (cases_lt k j) [
    | inl y ↦ absurd (let z = w.rising k j y a in omega (arith, z, e))
    | inr y ↦ omega (arith, x, y)
  ]
]

pub one_clause : (p : Propagator) → Whole p → (k id : ℕ) (c : List Literal) → k < length p.hand.held → (held_at p.hand.held k).id ≡ id → Named (all_numbered p.hand.held) id c → c ≡ (held_at p.hand.held k).clause
one_clause p w k id c b e m =
    let j = named_place p.hand.held id c m in
    sym j.1.2 ∙ ap (λ i. (held_at p.hand.held i).clause) (one_place p w j.0 k j.1.0 b (j.1.1 ∙ sym e))

pub no_clause : (p : Propagator) (id : ℕ) (c : List Literal) → ((k : ℕ) → k < length p.hand.held → (held_at p.hand.held k).id ≡ id → ⊥) → Named (all_numbered p.hand.held) id c → ⊥
no_clause p id c f m = let j = named_place p.hand.held id c m in f j.0 j.1.0 j.1.1

-- a clause of two literals is in the lists of both
module _ (p : Propagator) (w : Whole p) (l : Literal) where
  listed_some : (k : ℕ) (m : Literal) → m ≡ l → IsListed (list_at p.lists (code_of m)).entries k → 0 < length (list_at p.lists (code_of l)).entries
  listed_some k m e i = subst (λ x. 0 < length (list_at p.lists (code_of x)).entries) e (omega (arith, i.1.0.1))

  both_watched : (k : ℕ) → IsPair l (held_at p.hand.held k).clause → IsLong p.trail.entries p.lists p.head p.late k (held_at p.hand.held k) → 0 < length (list_at p.lists (code_of l)).entries
  both_watched k i g =
      let h = held_at p.hand.held k in
      let one = All-contains (λ m. (m ≡ l) ⊎ (m ≡ i.other)) h.clause (first_of h) i.no_third (Contains-get_or h.clause h.first _ g.placed.first) in
      let two = All-contains (λ m. (m ≡ l) ⊎ (m ≡ i.other)) h.clause (second_of h) i.no_third (Contains-get_or h.clause h.second _ g.placed.second) in
      elim one [
        | inl e ↦ listed_some k (first_of h) e g.first_listed
        | inr e ↦ elim two [
          | inl f ↦ listed_some k (second_of h) f g.second_listed
          | inr f ↦ absurd (g.differ (e ∙ sym f))
        ]
      ]

  pub pair_watched : (id : ℕ) (c : List Literal) → Named (all_numbered p.hand.held) id c → IsPair l c → 0 < length (list_at p.lists (code_of l)).entries
  pair_watched id c n i =
      let k = named_place p.hand.held id c n in
      let j = subst (IsPair l) (sym k.1.2) i in
      elim (w.keeps k.0 k.1.0) [
        | inl g ↦ both_watched k.0 j g
        | inr s ↦ absurd (j.apart (s.alike l j.other j.has_one j.has_other))
      ]

-- the first clauses of a formula
pub record Loaded (f : Clauses) (p : Propagator) (i : ℕ) : Type 0 where
  pub whole : Whole p
  pub trail : p.trail ≡ record { vars = f.vars; entries = []; depth = 0 }
  pub formula : p.hand.formula ≡ f.clauses
  pub known : p.hand.known ≡ i
  pub clauses : all_numbered p.hand.held ≡ numbered_from 1 (take i f.clauses)

module _ (f : Clauses) (p : Propagator) (i : ℕ) (l : Loaded f p i) (inside : i < length f.clauses) (x : List Literal) (s : Some x ≡ slice_get f.clauses (i + 1 - 1)) where
  pub loaded_below : All (λ n. n.id < p.hand.known + 1) (all_numbered p.hand.held)
  loaded_below = subst (λ ns. All (λ n. n.id < p.hand.known + 1) ns) (sym l.clauses) (subst (λ k. All (λ n. n.id < k + 1) (numbered_from 1 (take i f.clauses))) (sym l.known) (below_next f.clauses i inside))

  at : get_or f.clauses i [] ≡ x
  at = (let e : i + 1 - 1 ≡ i = omega arith in get_or_from_slice_get f.clauses i x [] (ap (slice_get f.clauses) (sym e) ∙ sym s))

  pub loaded_source : (p.hand.known < length p.hand.formula) × (length p.hand.held ≡ p.hand.known) × (x ≡ get_or p.hand.formula p.hand.known [])
  loaded_source = (
    omega (arith, l.known, inside, ap length l.formula),
    omega (arith, sym (length-map p.hand.held numbered), ap length l.clauses, numbered_length 1 (take i f.clauses), length-take-le i f.clauses (omega arith), l.known),
    sym (ap (λ cs. get_or cs p.hand.known []) l.formula ∙ ap (λ k. get_or f.clauses k []) l.known ∙ at),
  )

  pub Loaded-more : (q : Propagator) → Whole q → q.trail ≡ p.trail → Adds p.hand q.hand OfFormula x → Loaded f q (i + 1)
  Loaded-more q w t a =
      let n : p.hand.known + 1 ≡ i + 1 = omega (arith, l.known) in
      record {
        whole = w;
        trail = t ∙ l.trail;
        formula = a.formula ∙ l.formula;
        known = a.known ∙ n;
        clauses = a.clauses ∙ ap (λ k. all_numbered p.hand.held ++ record { id = k; clause = x } ∷ []) n ∙ ap (λ ns. ns ++ record { id = i + 1; clause = x } ∷ []) l.clauses ∙ numbered_more f.clauses i x inside s;
      }
