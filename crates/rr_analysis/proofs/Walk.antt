-- the walk back along the trail
use Rattle.std.proofs.Common.{◌≡◌, ◌⊎◌, inl, inr, ℕ, suc, zero, ◌+◌, ◌<◌, ◌≤◌, Bool, true, false, List, [], ◌∷◌, ◌++◌, length, get_or, map, set, take, reverse, replicate, refl, sym, ◌∙◌, ap, subst, arith}
use Rattle.std.specs.Prelude.{All, Contains, None}
use Rattle.std.proofs.lemmas.List.{take_more, take_all, map_push, length-set, get_or-set_same, get_or-set_other, reverse-append, length-take-le, get_or-take, get_or_default, get_or-replicate, get_or_past, length-replicate}
use Rattle.std.proofs.lemmas.List.Elements.{All-contains, All-cons, All-nil, Contains-append_left, Contains-push, Contains-push_cases}
use Rattle.std.proofs.lemmas.Bool.{cases_lt, cases_eq, false≢true}
use Rattle.rr_cnf.specs.Clauses.{Literal, negated, IsWithin}
use Rattle.rr_cnf.specs.Partial.{IsFalse, IsUnit}
use Rattle.rr_derive.specs.Derive.{Leads}
use Rattle.rr_derive.specs.Fresh.{Hinted}
use Rattle.rr_derive.proofs.MarkLaws.{All-from_contains, negated-negated, Contains-negated, Contains-map_negated, sign-cases, negated-apart}
use Rattle.rr_trail.specs.Trails.{Entry, Forces, IsTrail, entry, lits}
use Rattle.rr_watch.specs.Watches.{Named, State}
use Rattle.rr_trail.proofs.EntryLaws.{lit_at, holds_at, place_of}
use Rattle.rr_analysis.specs.Analysis.{AreNamed, IsDerived, IsMarked, Marked, KeptBy, Greatest, Learns}

-- the marks of a clause, literal by literal
pub Marked-none : (s : List Bool) → Marked s [] s
Marked-none s = record { long = refl; kept = λ v h. h; all = λ m c. absurd (omega (arith, c.1)); only = λ v h. inl h }

pub Marked-push : (s : List Bool) (c : List Literal) (n : List Bool) (l : Literal) → l.var < length s → Marked s c n → Marked s (c ++ l ∷ []) (set n l.var true)
Marked-push s c n l h w = record {
  long = length-set n l.var true ∙ w.long;
  kept = λ v m. up v (w.kept v m);
  all = λ m k. elim (Contains-push_cases c l m k) [ inl a ↦ up m.var (w.all m a) | inr b ↦ subst (IsMarked (set n l.var true)) (ap (λ x. x.var) b) (get_or-set_same n l.var true false (omega (arith, w.long))) ];
  only = λ v m. elim (cases_eq v l.var) [
    | inl e ↦ inr (l, (Contains-push c l, sym e))
    | inr e ↦ elim (w.only v (sym (get_or-set_other n l.var v true false e) ∙ m)) [ inl a ↦ inl a | inr b ↦ inr (b.0, (Contains-append_left c (l ∷ []) b.0 b.1.0, b.1.1)) ]
  ];
}
  where
    up : (v : ℕ) → IsMarked n v → IsMarked (set n l.var true) v
    up v m = elim (cases_eq v l.var) [
      | inl e ↦ subst (IsMarked (set n l.var true)) (sym e) (get_or-set_same n l.var true false (omega (arith, w.long)))
      | inr e ↦ get_or-set_other n l.var v true false e ∙ m
    ]

-- literals of one variable are equal or negations
pub same_or_negated : (a b : Literal) → a.var ≡ b.var → (a ≡ b) ⊎ (a ≡ negated b)
same_or_negated a b e = elim (sign-cases a.negative b.negative) [
  | inl s ↦ inl (ap (λ x. record { var = x; negative = a.negative }) e ∙ ap (λ x. record { var = b.var; negative = x }) s)
  | inr s ↦ inr (ap (λ x. record { var = x; negative = a.negative }) e ∙ ap (λ x. record { var = b.var; negative = x }) s)
]

pub lits_more : (t : List Entry) (k : ℕ) → k < length t → lits (take (k + 1) t) ≡ lits (take k t) ++ (entry t k).lit ∷ []
lits_more t k h = ap lits (take_more t k _ h) ∙ map_push (λ e. e.lit) (take k t) (entry t k)

pub up_to : (t : List Entry) (k : ℕ) (l : Literal) → k < length t → Contains (lits (take k t)) l → Contains (lits (take (k + 1) t)) l
up_to t k l h c = subst (λ ls. Contains ls l) (sym (lits_more t k h)) (Contains-append_left (lits (take k t)) _ l c)

pub here : (t : List Entry) (k : ℕ) → k < length t → Contains (lits (take (k + 1) t)) (entry t k).lit
here t k h = subst (λ ls. Contains ls (entry t k).lit) (sym (lits_more t k h)) (Contains-push (lits (take k t)) _)

pub more_cases : (t : List Entry) (k : ℕ) (l : Literal) → k < length t → Contains (lits (take (k + 1) t)) l → Contains (lits (take k t)) l ⊎ ((entry t k).lit ≡ l)
more_cases t k l h c = Contains-push_cases (lits (take k t)) _ l (subst (λ ls. Contains ls l) (lits_more t k h) c)

-- the place of a literal that was true before
pub place_before : (t : List Entry) (k : ℕ) (l : Literal) → k ≤ length t → Contains (lits (take k t)) l → (j : ℕ) × ((j < k) × ((entry t j).lit ≡ l))
place_before t k l h c =
    let w = place_of (take k t) l c in
    let n = length-take-le k t h in
    let j : w.0 < k = omega (arith, n, w.1.0) in
    (w.0, (j, ap (λ z. z.lit) (sym (entry_take_at t k w.0 j)) ∙ w.1.1))
  where
    entry_take_at : (t : List Entry) (n k : ℕ) → k < n → entry (take n t) k ≡ entry t k
    entry_take_at t n k h = get_or-take n t k _ h

pub before_all : (t : List Entry) (k : ℕ) (l : Literal) → k ≤ length t → Contains (lits (take k t)) l → Contains (lits t) l
before_all t k l h c =
    let w = place_before t k l h c in
    let j : w.0 < length t = omega (arith, w.1.0) in
    subst (Contains (lits t)) w.1.1 (holds_at t w.0 j)

pub at_before : (t : List Entry) (k j : ℕ) → j < k → k ≤ length t → Contains (lits (take k t)) (entry t j).lit
at_before t k j a h =
    let n = length-take-le k t h in
    let i : j < length (take k t) = omega (arith, n) in
    let e : entry (take k t) j ≡ entry t j = get_or-take k t j _ a in
    subst (Contains (lits (take k t))) (ap (λ z. z.lit) e) (holds_at (take k t) j i)

module _ (t : List Entry) (d : ℕ) (tr : IsTrail t d) where
  -- true literals of one variable are equal
  pub one_place : (j k : ℕ) → j < length t → k < length t → (entry t j).lit.var ≡ (entry t k).lit.var → j ≡ k
  one_place j k a b e = elim (cases_lt j k) [
    | inl i ↦ absurd (tr.apart j k i b e)
    | inr i ↦ elim (cases_lt k j) [ inl x ↦ absurd (tr.apart k j x a (sym e)) | inr x ↦ omega arith ]
  ]

  pub true_same : (a b : Literal) → Contains (lits t) a → Contains (lits t) b → a.var ≡ b.var → a ≡ b
  true_same a b ca cb e =
      let p = place_of t a ca in
      let q = place_of t b cb in
      let same : p.0 ≡ q.0 = one_place p.0 q.0 p.1.0 q.1.0 (ap (λ x. x.var) p.1.1 ∙ e ∙ ap (λ x. x.var) (sym q.1.1)) in
      sym p.1.1 ∙ ap (λ i. (entry t i).lit) same ∙ q.1.1

  pub not_before : (k : ℕ) (l : Literal) → k < length t → l.var ≡ (entry t k).lit.var → Contains (lits (take k t)) l → ⊥
  not_before k l h e c =
      let w = place_before t k l (omega arith) c in
      tr.apart w.0 k w.1.0 h (ap (λ x. x.var) w.1.1 ∙ e)

-- the literals that a clause's proof may take to be true
pub record Gives (t : List Entry) (k : ℕ) (c : List Literal) (seen : List Bool) (x : List Literal) : Type 0 where
  pub only : (l : Literal) → Contains x l → Contains (lits (take k t)) l ⊎ Contains c (negated l)
  pub has : (l : Literal) → Contains (lits (take k t)) l → IsMarked seen l.var → Contains x l
  pub negations : (l : Literal) → Contains c l → Contains x (negated l)

-- the walk so far
pub record Walk (named : ℕ → List Literal → Type 0) (t : List Entry) (why : Entry → Type 0) (k : ℕ) (c : List Literal) (seen : List Bool) (hints : List ℕ) : Type 0 where
  pub inside : k ≤ length t
  pub leads : (x : List Literal) → Gives t k c seen x → Leads named x (reverse hints)
  pub hinted : (x : List Literal) → Gives t k c seen x → (l : Literal) → Contains (lits t) l → IsMarked seen l.var → Hinted named x (reverse hints) (negated l)
  pub names : AreNamed named (reverse hints)
  pub kept : (m : Literal) → Contains c m → KeptBy t why k m
  pub marked : (m : Literal) → Contains c m → IsMarked seen m.var

module _ (named : ℕ → List Literal → Type 0) (t : List Entry) (d : ℕ) (why : Entry → Type 0) where
  pub Walk-start : (id : ℕ) (c : List Literal) (old seen : List Bool) → named id c → IsFalse (lits t) c → ((v : ℕ) → IsMarked old v → ⊥) → Marked old c seen → IsTrail t d → Walk named t why (length t) [] seen (id ∷ [])
  Walk-start id c old seen n f none m tr = record {
    inside = omega arith;
    leads = λ x g. (c, (n, inl (All-from_contains (λ l. Contains x (negated l)) c (λ l k. g.has (negated l) (whole (negated l) (false_in l k)) (m.all l k)))));
    hinted = λ x g l k s. elim (m.only l.var s) [
      | inl a ↦ absurd (none l.var a)
      | inr b ↦ (let e : negated b.0 ≡ l = true_same t d tr (negated b.0) l (false_in b.0 b.1.0) k b.1.1 in
          (c, (n, inl (subst (Contains c) (sym (negated-negated b.0) ∙ ap negated e) b.1.0))))
    ];
    names = All-cons (λ h. (y : List Literal) × named h y) id [] (c, n) (All-nil (λ h. (y : List Literal) × named h y));
    kept = λ l k. absurd (omega (arith, k.1));
    marked = λ l k. absurd (omega (arith, k.1));
  }
    where
      false_in : (l : Literal) → Contains c l → Contains (lits t) (negated l)
      false_in l k = All-contains (λ l. Contains (lits t) (negated l)) c l f k

      whole : (l : Literal) → Contains (lits t) l → Contains (lits (take (length t) t)) l
      whole l = subst (λ u. Contains (lits u) l) (sym (take_all (length t) t (omega arith)))

  module _ (tr : IsTrail t d) (k : ℕ) (c : List Literal) (seen : List Bool) (hints : List ℕ) (w : Walk named t why (k + 1) c seen hints) where
    at : k < length t
    at = omega (arith, w.inside)

    lower : (m : Literal) → KeptBy t why (k + 1) m → KeptBy t why k m
    lower m q = record { place = q.place; low = omega (arith, q.low); inside = q.inside; is = q.is; known = q.known }

    -- the literal was not marked
    pub Walk-skip : (IsMarked seen (entry t k).lit.var → ⊥) → Walk named t why k c seen hints
    Walk-skip n = record {
      inside = omega (arith, w.inside);
      leads = λ x g. w.leads x (up x g);
      hinted = λ x g. w.hinted x (up x g);
      names = w.names;
      kept = λ m h. lower m (w.kept m h);
      marked = w.marked;
    }
      where
        up : (x : List Literal) → Gives t k c seen x → Gives t (k + 1) c seen x
        up x g = record {
          only = λ l h. elim (g.only l h) [ inl a ↦ inl (up_to t k l at a) | inr b ↦ inr b ];
          has = λ l h s. elim (more_cases t k l at h) [ inl a ↦ g.has l a s | inr e ↦ absurd (n (subst (λ y. IsMarked seen y.var) (sym e) s)) ];
          negations = g.negations;
        }

    -- its negation goes into the clause
    pub Walk-keep : IsMarked seen (entry t k).lit.var → why (entry t k) → Walk named t why k (c ++ negated (entry t k).lit ∷ []) seen hints
    Walk-keep s for = record {
      inside = omega (arith, w.inside);
      leads = λ x g. w.leads x (up x g);
      hinted = λ x g. w.hinted x (up x g);
      names = w.names;
      kept = λ m h. elim (Contains-push_cases c (negated (entry t k).lit) m h) [
        | inl a ↦ lower m (w.kept m a)
        | inr e ↦ record { place = k; low = omega arith; inside = at; is = sym (negated-negated (entry t k).lit) ∙ ap negated e; known = for }
      ];
      marked = λ m h. elim (Contains-push_cases c (negated (entry t k).lit) m h) [ inl a ↦ w.marked m a | inr e ↦ subst (λ y. IsMarked seen y.var) e s ];
    }
      where
        up : (x : List Literal) → Gives t k (c ++ negated (entry t k).lit ∷ []) seen x → Gives t (k + 1) c seen x
        up x g = record {
          only = λ l h. elim (g.only l h) [
            | inl a ↦ inl (up_to t k l at a)
            | inr b ↦ elim (Contains-push_cases c (negated (entry t k).lit) (negated l) b) [
              | inl a ↦ inr a
              | inr e ↦ inl (subst (Contains (lits (take (k + 1) t))) (sym (negated-negated (entry t k).lit) ∙ ap negated e ∙ negated-negated l) (here t k at))
            ]
          ];
          has = λ l h q. elim (more_cases t k l at h) [
            | inl a ↦ g.has l a q
            | inr e ↦ subst (Contains x) (negated-negated (entry t k).lit ∙ e) (g.negations (negated (entry t k).lit) (Contains-push c (negated (entry t k).lit)))
          ];
          negations = λ l h. g.negations l (Contains-append_left c _ l h);
        }

    -- its reason is resolved with
    pub Walk-resolve : (id : ℕ) (r : List Literal) (next : List Bool) → IsMarked seen (entry t k).lit.var → named id r → Forces (lits (take k t)) r (entry t k).lit → Marked seen r next → Walk named t why k c next (hints ++ id ∷ [])
    Walk-resolve id r next s n f m = record {
      inside = omega (arith, w.inside);
      leads = λ x g. subst (Leads named x) (sym turned) (r, (n, inr ((entry t k).lit, (unit x g, w.leads (x ++ (entry t k).lit ∷ []) (up x g)))));
      hinted = λ x g l h q. subst (λ hs. Hinted named x hs (negated l)) (sym turned) (
        r,
        (
          n,
          elim (m.only l.var q) [
            | inl a ↦ inr ((entry t k).lit, (unit x g, w.hinted (x ++ (entry t k).lit ∷ []) (up x g) l h a))
            | inr b ↦ elim (All-contains (λ y. (y ≡ (entry t k).lit) ⊎ Contains (lits (take k t)) (negated y)) r b.0 f.others b.1.0) [
              | inl e ↦ (let same : (entry t k).lit ≡ l = true_same t d tr (entry t k).lit l (holds_at t k at) h (ap (λ y. y.var) (sym e) ∙ b.1.1) in
                  inr ((entry t k).lit, (unit x g, w.hinted (x ++ (entry t k).lit ∷ []) (up x g) l h (subst (λ y. IsMarked seen y.var) same s))))
              | inr z ↦ (let same : negated b.0 ≡ l = true_same t d tr (negated b.0) l (before_all t k (negated b.0) (omega arith) z) h b.1.1 in
                  inl (subst (Contains r) (sym (negated-negated b.0) ∙ ap negated same) b.1.0))
            ]
          ],
        ),
      );
      names = subst (AreNamed named) (sym turned) (All-cons (λ h. (y : List Literal) × named h y) id (reverse hints) (r, n) w.names);
      kept = λ q h. lower q (w.kept q h);
      marked = λ q h. m.kept q.var (w.marked q h);
    }
      where
        turned : reverse (hints ++ id ∷ []) ≡ id ∷ reverse hints
        turned = reverse-append hints (id ∷ [])

        absent : (x : List Literal) → Gives t k c next x → (l : Literal) → l.var ≡ (entry t k).lit.var → Contains x l → ⊥
        absent x g l e h = elim (g.only l h) [
          | inl a ↦ not_before t d tr k l at e a
          | inr b ↦ (let q = w.kept (negated l) b in
              let same : k ≡ q.place = one_place t d tr k q.place at q.inside (sym e ∙ ap (λ y. y.var) (sym (q.is ∙ negated-negated l))) in
              omega (arith, q.low))
        ]

        unit : (x : List Literal) → Gives t k c next x → IsUnit x r (entry t k).lit
        unit x g = record {
          member = f.member;
          not_true = absent x g (entry t k).lit refl;
          not_false = absent x g (negated (entry t k).lit) refl;
          others = All-from_contains (λ y. (y ≡ (entry t k).lit) ⊎ Contains x (negated y)) r (λ y h.
              elim (All-contains (λ y. (y ≡ (entry t k).lit) ⊎ Contains (lits (take k t)) (negated y)) r y f.others h) [ inl e ↦ inl e | inr z ↦ inr (g.has (negated y) z (m.all y h)) ]);
        }

        up : (x : List Literal) → Gives t k c next x → Gives t (k + 1) c seen (x ++ (entry t k).lit ∷ [])
        up x g = record {
          only = λ l h. elim (Contains-push_cases x (entry t k).lit l h) [
            | inl a ↦ elim (g.only l a) [ inl y ↦ inl (up_to t k l at y) | inr y ↦ inr y ]
            | inr e ↦ inl (subst (Contains (lits (take (k + 1) t))) e (here t k at))
          ];
          has = λ l h q. elim (more_cases t k l at h) [
            | inl a ↦ Contains-append_left x _ l (g.has l a (m.kept l.var q))
            | inr e ↦ subst (Contains (x ++ (entry t k).lit ∷ [])) e (Contains-push x (entry t k).lit)
          ];
          negations = λ l h. Contains-append_left x _ (negated l) (g.negations l h);
        }

-- the end of the walk
module _ (s : State) (why : Entry → Type 0) (c : List Literal) (seen : List Bool) (hints : List ℕ) (tr : IsTrail s.trail s.depth) (within : All (IsWithin s.vars) (lits s.trail)) (w : Walk (Named s.clauses) s.trail why 0 c seen hints) where
  true_one : (l : Literal) → Contains c l → Contains (lits s.trail) (negated l)
  true_one l h = let q = w.kept l h in subst (Contains (lits s.trail)) q.is (holds_at s.trail q.place q.inside)

  apart : (l : Literal) → Contains c l → Contains c (negated l) → ⊥
  apart l h k = negated-apart (negated l) (true_same s.trail s.depth tr (negated (negated l)) (negated l) (true_one (negated l) k) (true_one l h) refl)

  gives : Gives s.trail 0 c seen (map negated c)
  gives = record {
    only = λ l h. inr (Contains-negated c l h);
    has = λ l h q. absurd (omega (arith, h.1));
    negations = λ l h. Contains-map_negated c (negated l) (subst (Contains c) (sym (negated-negated l)) h);
  }

  pub Derived-walk : IsDerived s c (reverse hints)
  Derived-walk = record {
    passes = (All-from_contains (λ l. Contains c (negated l) → ⊥) c (λ l h k. apart l h k), w.leads (map negated c) gives);
    named = w.names;
    within = All-from_contains (IsWithin s.vars) c (λ l h. All-contains (IsWithin s.vars) (lits s.trail) (negated l) within (true_one l h));
  }

  pub hinted_all : (l : Literal) → Contains c l → Hinted (Named s.clauses) (map negated c) (reverse hints) l
  hinted_all l h = subst (Hinted (Named s.clauses) (map negated c) (reverse hints)) (negated-negated l) (w.hinted (map negated c) gives (negated l) (true_one l h) (w.marked l h))

-- of a literal that a free search keeps nothing is asked
abbrev pub Anything : Entry → Type 0
Anything e = e ≡ e

-- what a decided literal, or one below the last level, tells of itself
abbrev pub StaysAt : ℕ → Entry → Type 0
StaysAt d e = (1 ≤ e.level) × ((e.level < d) ⊎ (e.reason ≡ None))

pub Learns-walk : (s : State) (c : List Literal) (seen : List Bool) (hints : List ℕ) (level : ℕ) → IsTrail s.trail s.depth → All (IsWithin s.vars) (lits s.trail) → Walk (Named s.clauses) s.trail (StaysAt s.depth) 0 c seen hints → Greatest s.trail s.depth c level → Learns s c (reverse hints) level
Learns-walk s c seen hints level tr within w g =
    let d = Derived-walk s (StaysAt s.depth) c seen hints tr within w in
    record {
      passes = d.passes;
      hinted = hinted_all s (StaysAt s.depth) c seen hints tr within w;
      named = d.named;
      kept = λ m h. let q = w.kept m h in record { place = q.place; low = q.low; inside = q.inside; is = q.is; level = q.known.0; why = q.known.1 };
      greatest = g;
      within = d.within;
    }

pub Greatest-none : (t : List Entry) (d : ℕ) → Greatest t d [] 0
Greatest-none t d = record { bound = λ m h. absurd (omega (arith, h.1)); is = inl refl }

-- the greatest level, when a literal of the trail joins
module _ (t : List Entry) (d : ℕ) (tr : IsTrail t d) (c : List Literal) (level : ℕ) (g : Greatest t d c level) (k : ℕ) (h : k < length t) where
  there : (m : Literal) (j : ℕ) → negated (entry t k).lit ≡ m → j < length t → (entry t j).lit ≡ negated m → j ≡ k
  there m j e a q = one_place t d tr j k a h (ap (λ x. x.var) (q ∙ ap negated (sym e)))

  pub Greatest-same : ((entry t k).level < d → (entry t k).level ≤ level) → Greatest t d (c ++ negated (entry t k).lit ∷ []) level
  Greatest-same low = record {
    bound = λ m i j a q b. elim (Contains-push_cases c (negated (entry t k).lit) m i) [
      | inl o ↦ g.bound m o j a q b
      | inr e ↦ (let z = there m j e a q in subst (λ i. (entry t i).level ≤ level) (sym z) (low (subst (λ i. (entry t i).level < d) z b)))
    ];
    is = elim g.is [ inl z ↦ inl z | inr z ↦ inr (z.0, (Contains-append_left c _ z.0 z.1.0, z.1.1)) ];
  }

  pub Greatest-new : (more : ℕ) → (entry t k).level ≡ more → more < d → level ≤ more → Greatest t d (c ++ negated (entry t k).lit ∷ []) more
  Greatest-new more e b up = record {
    bound = λ m i j a q lt. elim (Contains-push_cases c (negated (entry t k).lit) m i) [
      | inl o ↦ (let z = g.bound m o j a q lt in omega (arith, z))
      | inr w ↦ (let z = there m j w a q in subst (λ i. (entry t i).level ≤ more) (sym z) (omega (arith, e)))
    ];
    is = inr (negated (entry t k).lit, (Contains-push c _, (k, (h, sym (negated-negated (entry t k).lit), e, b))));
  }

pub lit_here : (t : List Entry) (ls : List Literal) (k : ℕ) (l : Literal) → ls ≡ lits t → k < length t → l ≡ get_or ls k l → l ≡ (entry t k).lit
lit_here t ls k l e h r = r ∙ ap (λ x. get_or x k l) e ∙ lit_at t k l h

pub read_marked : (s : List Bool) (v : ℕ) (x b : Bool) → v < length s → x ≡ get_or s v x → x ≡ b → get_or s v false ≡ b
read_marked s v x b h e q = get_or_default s v false x h ∙ sym e ∙ q

pub none_marked : (n v : ℕ) → IsMarked (replicate n false) v → ⊥
none_marked n v e = elim (cases_lt v n) [
  | inl a ↦ false≢true (sym (get_or-replicate n v false false a) ∙ e)
  | inr b ↦ false≢true (sym (get_or_past (replicate n false) v false (omega (arith, length-replicate n false, b))) ∙ e)
]

pub var_at : (t : List Entry) (ls : List Literal) (n k : ℕ) → ls ≡ lits t → k < length t → All (IsWithin n) ls → (entry t k).lit.var ≤ n
var_at t ls n k e h w = let z = All-contains (IsWithin n) (lits t) (entry t k).lit (subst (All (IsWithin n)) e w) (holds_at t k h) in z.1

-- over places of which none is marked
pub Walk-over : (named : ℕ → List Literal → Type 0) (t : List Entry) (d : ℕ) (why : Entry → Type 0) → IsTrail t d → (c : List Literal) (seen : List Bool) (hints : List ℕ) (n k : ℕ) → Walk named t why (k + n) c seen hints → ((j : ℕ) → k ≤ j → j < k + n → IsMarked seen (entry t j).lit.var → ⊥) → Walk named t why k c seen hints
Walk-over named t d why tr c seen hints zero k w none = subst (λ i. Walk named t why i c seen hints) (omega arith) w
Walk-over named t d why tr c seen hints (suc n) k w none =
    let e : k + suc n ≡ k + n + 1 = omega arith in
    Walk-over named t d why tr c seen hints n k
    (Walk-skip named t d why tr (k + n) c seen hints (subst (λ i. Walk named t why i c seen hints) e w) (none (k + n) (omega arith) (omega arith)))
    (λ j a b. none j a (omega arith))
