-- which literals of a new clause serve as watched ones
use Rattle.std.proofs.Common.{◌≡◌, ◌⊎◌, inl, inr, ℕ, ◌<◌, ◌≤◌, List, length, sym, ◌∙◌, ap, subst, arith}
use Rattle.std.specs.Prelude.{Contains, Some, None}
use Rattle.std.proofs.lemmas.List.Elements.{All-contains, Contains-get_or}
use Rattle.std.proofs.lemmas.Bool.{cases_lt, cases_eq}
use Rattle.rr_cnf.specs.Clauses.{Literal, negated}
use Rattle.rr_cnf.specs.Codes.{code_of, same_code}
use Rattle.rr_trail.specs.Trails.{Entry, Standing, entry, lits, IsTrail}
use Rattle.rr_watch.specs.Watches.{MayAdd, Asserts, HasLate}
use Rattle.rr_watch.specs.Lists.{AreAlike, literal_at, RankIs, IsBest, BestIs, Serves}
use Rattle.rr_trail.proofs.EntryLaws.{holds_at, decisions-le}
use Rattle.rr_trail.proofs.TableLaws.{negated-negated}

pub same_or_apart : (l m : Literal) → (l ≡ m) ⊎ (l ≡ m → ⊥)
same_or_apart l m = elim (cases_eq (code_of l) (code_of m)) [ inl e ↦ inl (same_code l m e) | inr n ↦ inr (λ e. n (ap code_of e)) ]

pub alike_none : (t : List Entry) (c : List Literal) → BestIs t c None None → AreAlike c
alike_none t c f l m a b = absurd (f l a tt)

pub alike_one : (t : List Entry) (c : List Literal) (o : Literal) → BestIs t c (Some o) None → AreAlike c
alike_one t c o f l m a b = is_o l a ∙ sym (is_o m b)
  where
    is_o : (x : Literal) → Contains c x → x ≡ o
    is_o x y = elim (same_or_apart x o) [ inl e ↦ e | inr n ↦ absurd (f x y n) ]

module _ (tr : Standing) (lawful : IsTrail tr.entries tr.depth) (fits : length tr.entries ≤ 4294967294) (head late : ℕ) (inside : head ≤ length tr.entries)
    (c : List Literal) (may : MayAdd tr.entries tr.depth c) (f s : ℕ) (bf : IsBest tr.entries c None f) (bs : IsBest tr.entries c (Some (literal_at c f)) s)
    (seen : Contains (lits tr.entries) (negated (literal_at c s)) → (k : ℕ) → k < head → (entry tr.entries k).level < tr.depth) where
  member : (k : ℕ) → k < length c → Contains c (literal_at c k)
  member k b = Contains-get_or c k _ b

  shallow : (k : ℕ) → k < length tr.entries → (entry tr.entries k).level ≤ 4294967294
  shallow k b = let x = lawful.below k b in omega (arith, x, lawful.deep, decisions-le tr.entries, fits)

  -- one place for one literal
  one_place : (j k : ℕ) → j < length tr.entries → k < length tr.entries → (entry tr.entries j).lit ≡ (entry tr.entries k).lit → j ≡ k
  one_place j k a b e = elim (cases_lt j k) [
    | inl x ↦ absurd (lawful.apart j k x b (ap (λ l. l.var) e))
    | inr x ↦ elim (cases_lt k j) [
      | inl y ↦ absurd (lawful.apart k j y a (ap (λ l. l.var) (sym e)))
      | inr y ↦ omega (arith, x, y)
    ]
  ]

  -- the rank of a false literal
  rank_false : (l : Literal) (r j : ℕ) → RankIs tr.entries l r → j < length tr.entries → (entry tr.entries j).lit ≡ negated l → r ≡ (entry tr.entries j).level
  rank_false l r j (inl x) b e = absurd (x.1 (subst (Contains (lits tr.entries)) e (holds_at tr.entries j b)))
  rank_false l r j (inr x) b e = x.1.2 ∙ ap (λ i. (entry tr.entries i).level) (one_place x.0 j x.1.0 b (x.1.1 ∙ sym e))

  -- a literal of a small rank is false
  is_false : (l : Literal) (r : ℕ) → RankIs tr.entries l r → r ≤ 4294967294 → Contains (lits tr.entries) (negated l)
  is_false l r (inl x) b = absurd (omega (arith, x.0))
  is_false l r (inr x) b = subst (Contains (lits tr.entries)) x.1.1 (holds_at tr.entries x.0 x.1.0)

  first_open : (a : Asserts tr.entries tr.depth c) → literal_at c f ≡ a.lit
  first_open a = elim (All-contains (λ (m : Literal). (m ≡ a.lit) ⊎ Contains (lits tr.entries) (negated m)) c (literal_at c f) a.unit.others (member f bf.inside)) [
    | inl e ↦ e
    | inr n ↦ absurd (false_first n bf.ranked)
  ]
    where
      false_first : Contains (lits tr.entries) (negated (literal_at c f)) → RankIs tr.entries (literal_at c f) bf.rank → ⊥
      false_first n (inl x) = x.1 n
      false_first n (inr x) =
          let low = shallow x.0 x.1.0 in
          let g = bf.greatest a.lit a.unit.member tt in
          a.unit.not_false (is_false a.lit g.0 g.1.0 (omega (arith, g.1.1, x.1.2, low)))

  pub serves_second : Serves tr.entries head late (literal_at c s) c
  serves_second j b e =
      let bj : j < length tr.entries = omega arith in
      let under = seen (subst (Contains (lits tr.entries)) e (holds_at tr.entries j bj)) j b in
      let mine = rank_false (literal_at c s) bs.rank j bs.ranked bj e in
      absurd (elim may [
        | inl z ↦ omega (arith, under, z)
        | inr a ↦ elim a.late [
          | inl all ↦ bs.apart (All-contains (λ (m : Literal). m ≡ a.lit) c (literal_at c s) all (member s bs.inside) ∙ sym (first_open a))
          | inr h ↦ late_one a h under mine
        ]
      ])
    where
      late_one : (a : Asserts tr.entries tr.depth c) (h : HasLate tr.entries tr.depth c) → (entry tr.entries j).level < tr.depth → bs.rank ≡ (entry tr.entries j).level → ⊥
      late_one a h under mine =
          let m = negated (entry tr.entries h.place).lit in
          let is : (entry tr.entries h.place).lit ≡ negated (negated (entry tr.entries h.place).lit) = sym (negated-negated (entry tr.entries h.place).lit) in
          let apart : negated (entry tr.entries h.place).lit ≡ literal_at c f → ⊥ = λ z. a.unit.not_false (subst (Contains (lits tr.entries)) (is ∙ ap negated (z ∙ first_open a)) (holds_at tr.entries h.place h.inside)) in
          let g = bs.greatest (negated (entry tr.entries h.place).lit) h.member apart in
          let r = rank_false (negated (entry tr.entries h.place).lit) g.0 h.place g.1.0 h.inside is in
          omega (arith, r, g.1.1, h.level, under, mine)

  pub serves_first : Serves tr.entries head late (literal_at c f) c
  serves_first j b e =
      let bj : j < length tr.entries = omega arith in
      let n = subst (Contains (lits tr.entries)) e (holds_at tr.entries j bj) in
      absurd (elim may [
        | inl z ↦ (let mine = rank_false (literal_at c f) bf.rank j bf.ranked bj e in
            let low = lawful.below j bj in
            let g = bf.greatest (literal_at c s) (member s bs.inside) tt in
            let under = seen (is_false (literal_at c s) g.0 g.1.0 (omega (arith, g.1.1, mine, low, z))) j b in
            omega (arith, under, z))
        | inr a ↦ a.unit.not_false (subst (λ l. Contains (lits tr.entries) (negated l)) (first_open a) n)
      ])
