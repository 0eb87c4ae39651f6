-- a learned clause is fresh, and nothing is false or unit before a decision afterwards
use Rattle.std.proofs.Common.{◌≡◌, ◌⊎◌, inl, inr, ℕ, suc, zero, ◌+◌, ◌-◌, ◌<◌, ◌≤◌, true, false, not, List, [], ◌∷◌, ◌++◌, length, map, take, refl, sym, ◌∙◌, ap, subst, arith}
use Rattle.std.specs.Prelude.{All, Contains, Option, Some, None, is_some}
use Rattle.std.proofs.lemmas.List.{take_all}
use Rattle.std.proofs.lemmas.List.Elements.{All-contains, All-weaker, All-cons, All-nil, Contains-append_left, Contains-append_right, Contains-append_cases, Contains-push, Contains-push_cases}
use Rattle.std.proofs.lemmas.Bool.{cases_lt}
use Rattle.rr_cnf.specs.Clauses.{Literal, negated}
use Rattle.rr_cnf.specs.Partial.{IsFalse, IsQuiet, IsUnit}
use Rattle.rr_derive.specs.Derive.{Leads}
use Rattle.rr_derive.specs.Fresh.{Entry as Held, Hinted, IsFresh, IsOpen, IsTrail as Lawful, OthersFalse, decision_of, lits as held_lits}
use Rattle.rr_derive.proofs.MarkLaws.{All-from_contains, negated-negated, Contains-negated}
use Rattle.rr_derive.proofs.FreshLaws.{same_or_not}
use Rattle.rr_trail.specs.Trails.{Entry, AreForced, Decision, IsTrail, entry, lits}
use Rattle.rr_watch.specs.Watches.{MayAdd}
use Rattle.rr_analysis.specs.Analysis.{Kept, Greatest}
use Rattle.rr_analysis.proofs.Walk.{more_cases, up_to, here, place_before, at_before, not_before, one_place}

pub contains_or_not : (ls : List Literal) (l : Literal) → Contains ls l ⊎ (Contains ls l → ⊥)
contains_or_not [] l = inr (λ c. absurd (omega (arith, c.1)))
contains_or_not (x ∷ xs) l = by_cases (same_or_not x l) (contains_or_not xs l)
  where
    by_cases : ((x ≡ l) ⊎ (x ≡ l → ⊥)) → (Contains xs l ⊎ (Contains xs l → ⊥)) → Contains (x ∷ xs) l ⊎ (Contains (x ∷ xs) l → ⊥)
    by_cases (inl e) r = inl (Contains-append_left (x ∷ []) xs l (subst (Contains (x ∷ [])) e (Contains-push [] x)))
    by_cases (inr n) (inl c) = inl (Contains-append_right (x ∷ []) xs l c)
    by_cases (inr n) (inr m) = inr (λ c. elim (Contains-append_cases (x ∷ []) xs l c) [
      | inl a ↦ elim (Contains-push_cases [] x l a) [ inl z ↦ absurd (omega (arith, z.1)) | inr e ↦ n e ]
      | inr b ↦ m b
    ])

-- hints lead nowhere from literals under which nothing is false or unit
pub cannot_lead : (named : ℕ → List Literal → Type 0) (hand : List (List Literal)) → ((id : ℕ) (c : List Literal) → named id c → Contains hand c) → (held : List Literal) → IsQuiet hand held → (hints : List ℕ) (x : List Literal) → ((l : Literal) → Contains x l → Contains held l) → Leads named x hints → ⊥
cannot_lead named hand at held quiet [] x sub lead = lead
cannot_lead named hand at held quiet (h ∷ hs) x sub lead = elim lead.1.1 [
  | inl f ↦ (quiet lead.0 (at h lead.0 lead.1.0)).0 (All-weaker (λ l. Contains x (negated l)) (λ l. Contains held (negated l)) (λ l c. sub (negated l) c) lead.0 f)
  | inr w ↦ by_cases w.0 w.1.0 (contains_or_not held w.0) (contains_or_not held (negated w.0)) (λ more. cannot_lead named hand at held quiet hs (x ++ w.0 ∷ []) more w.1.1)
]
  where
    by_cases : (u : Literal) → IsUnit x lead.0 u → (Contains held u ⊎ (Contains held u → ⊥)) → (Contains held (negated u) ⊎ (Contains held (negated u) → ⊥)) → (((l : Literal) → Contains (x ++ u ∷ []) l → Contains held l) → ⊥) → ⊥
    by_cases u i (inl a) b next = next (λ l c. elim (Contains-push_cases x u l c) [ inl o ↦ sub l o | inr e ↦ subst (Contains held) e a ])
    by_cases u i (inr a) (inl b) next = (quiet lead.0 (at h lead.0 lead.1.0)).0 (All-weaker (λ m. (m ≡ u) ⊎ Contains x (negated m)) (λ m. Contains held (negated m)) (λ m o. elim o [ inl e ↦ subst (λ y. Contains held (negated y)) (sym e) b | inr c ↦ sub (negated m) c ]) lead.0 i.others)
    by_cases u i (inr a) (inr b) next = (quiet lead.0 (at h lead.0 lead.1.0)).1 u (record {
      member = i.member;
      not_true = a;
      not_false = b;
      others = All-weaker (λ m. (m ≡ u) ⊎ Contains x (negated m)) (λ m. (m ≡ u) ⊎ Contains held (negated m)) (λ m o. elim o [ inl e ↦ inl e | inr c ↦ inr (sub (negated m) c) ]) lead.0 i.others;
    })

cons_cases : (x : Literal) (xs : List Literal) (l : Literal) → Contains (x ∷ xs) l → (x ≡ l) ⊎ Contains xs l
cons_cases x xs l c = elim (Contains-append_cases (x ∷ []) xs l c) [
  | inl a ↦ elim (Contains-push_cases [] x l a) [ inl z ↦ absurd (omega (arith, z.1)) | inr e ↦ inl e ]
  | inr b ↦ inr b
]

cons_here : (x : Literal) (xs : List Literal) → Contains (x ∷ xs) x
cons_here x xs = Contains-append_left (x ∷ []) xs x (Contains-push [] x)

cons_there : (x : Literal) (xs : List Literal) (l : Literal) → Contains xs l → Contains (x ∷ xs) l
cons_there x xs l c = Contains-append_right (x ∷ []) xs l c

-- a trail, newest first
pub held_entry : Entry → Held
held_entry e = record { lit = e.lit; decided = not (is_some e.reason) }

pub newest : List Entry → ℕ → List Held
newest t zero = []
newest t (suc k) = held_entry (entry t k) ∷ newest t k

next_is : (k : ℕ) → k + 1 ≡ suc k
next_is k = omega arith

pub Holds-from : (t : List Entry) (k : ℕ) (l : Literal) → k ≤ length t → Contains (held_lits (newest t k)) l → Contains (lits (take k t)) l
unfolding newest held_entry
Holds-from t zero l h o = absurd (omega (arith, o.1))
Holds-from t (suc k) l h o = subst (λ n. Contains (lits (take n t)) l) (next_is k) (elim (cons_cases (entry t k).lit (held_lits (newest t k)) l o) [
  | inl e ↦ subst (Contains (lits (take (k + 1) t))) e (here t k (omega arith))
  | inr r ↦ up_to t k l (omega arith) (Holds-from t k l (omega arith) r)
])

pub Holds-to : (t : List Entry) (k : ℕ) (l : Literal) → k ≤ length t → Contains (lits (take k t)) l → Contains (held_lits (newest t k)) l
unfolding newest held_entry
Holds-to t zero l h c = absurd (omega (arith, c.1))
Holds-to t (suc k) l h c = elim (more_cases t k l (omega arith) (subst (λ n. Contains (lits (take n t)) l) (sym (next_is k)) c)) [
  | inl a ↦ cons_there (entry t k).lit (held_lits (newest t k)) l (Holds-to t k l (omega arith) a)
  | inr e ↦ subst (Contains (held_lits (newest t (suc k)))) e (cons_here (entry t k).lit (held_lits (newest t k)))
]

-- the same literals are quiet alike
pub quiet_same : (hand : List (List Literal)) (a b : List Literal) → ((l : Literal) → Contains a l → Contains b l) → ((l : Literal) → Contains b l → Contains a l) → IsQuiet hand a → IsQuiet hand b
quiet_same hand a b to from q c m = (
  λ f. (q c m).0 (All-weaker (λ l. Contains b (negated l)) (λ l. Contains a (negated l)) (λ l o. from (negated l) o) c f),
  λ u i. (q c m).1 u (record {
    member = i.member;
    not_true = λ y. i.not_true (to u y);
    not_false = λ y. i.not_false (to (negated u) y);
    others = All-weaker (λ m. (m ≡ u) ⊎ Contains b (negated m)) (λ m. (m ≡ u) ⊎ Contains a (negated m)) (λ m w. elim w [ inl e ↦ inl e | inr y ↦ inr (from (negated m) y) ]) c i.others;
  }),
)

module _ (named : ℕ → List Literal → Type 0) (hand : List (List Literal)) (at : (id : ℕ) (c : List Literal) → named id c → Contains hand c) (inputs : ℕ) (t : List Entry) (d : ℕ) (tr : IsTrail t d) (forced : AreForced named t) where
  open_at : (k : ℕ) → k < length t → IsOpen (held_lits (newest t k)) (entry t k).lit
  open_at k h = (λ o. not_before t d tr k (entry t k).lit h refl (Holds-from t k (entry t k).lit (omega arith) o), λ o. not_before t d tr k (negated (entry t k).lit) h refl (Holds-from t k (negated (entry t k).lit) (omega arith) o))

  module _ (low : (k : ℕ) → k < length t → 1 ≤ (entry t k).lit.var) (inputs_only : (k : ℕ) → k < length t → (entry t k).reason ≡ None → (entry t k).lit.var ≤ inputs) where
    why : (k : ℕ) → k < length t → (o : Option ℕ) → (entry t k).reason ≡ o → (((not (is_some (entry t k).reason)) ≡ true) × (1 ≤ (entry t k).lit.var) × ((entry t k).lit.var ≤ inputs)) ⊎ (((not (is_some (entry t k).reason)) ≡ false) × ((c : List Literal) × (Contains hand c × Contains c (entry t k).lit × OthersFalse (held_lits (newest t k)) c (entry t k).lit)))
    why k h None e = inl (ap (λ o. not (is_some o)) e, low k h, inputs_only k h e)
    why k h (Some id) e =
        let r = forced k id h e in
        inr (ap (λ o. not (is_some o)) e, (r.clause, (at id r.clause r.name, r.forces.member, All-weaker (λ m. (m ≡ (entry t k).lit) ⊎ Contains (lits (take k t)) (negated m)) (λ m. (m ≡ (entry t k).lit) ⊎ Contains (held_lits (newest t k)) (negated m)) (λ m o. elim o [ inl q ↦ inl q | inr c ↦ inr (Holds-to t k (negated m) (omega arith) c) ]) r.clause r.forces.others)))

    pub Lawful-newest : (k : ℕ) → k ≤ length t → Lawful hand inputs (newest t k)
    unfolding newest held_entry
    Lawful-newest zero h = tt
    Lawful-newest (suc k) h = (Lawful-newest k (omega arith), (open_at k (omega arith), why k (omega arith) (entry t k).reason refl))

not_decided : (o : Option ℕ) → (o ≡ None → ⊥) → not (is_some o) ≡ false
not_decided None n = absurd (n refl)
not_decided (Some x) n = refl

-- the entries from a place on, newest first
span : List Entry → ℕ → ℕ → List Held
span t p zero = []
span t p (suc m) = held_entry (entry t (p + m)) ∷ span t p m

span-newest : (t : List Entry) (p m : ℕ) → newest t (p + m) ≡ span t p m ++ newest t p
unfolding newest span
span-newest t p zero = ap (newest t) (omega arith)
span-newest t p (suc m) =
    let e : p + suc m ≡ suc (p + m) = omega arith in
    ap (newest t) e ∙ ap (λ x. held_entry (entry t (p + m)) ∷ x) (span-newest t p m)

span-forced : (t : List Entry) (p m : ℕ) → p + m ≤ length t → ((k : ℕ) → p ≤ k → k < length t → (entry t k).reason ≡ None → ⊥) → All (λ e. e.decided ≡ false) (span t p m)
unfolding span held_entry
span-forced t p zero h f = All-nil (λ e. e.decided ≡ false)
span-forced t p (suc m) h f = All-cons (λ e. e.decided ≡ false) (held_entry (entry t (p + m))) (span t p m) (not_decided (entry t (p + m)).reason (f (p + m) (omega arith) (omega arith))) (span-forced t p m (omega arith) f)

-- the last decision, when something is learned
module _ (t : List Entry) (d : ℕ) (tr : IsTrail t d) (q : Decision t d) where
  pub forced_after : (k : ℕ) → q.place < k → k < length t → (entry t k).reason ≡ None → ⊥
  forced_after k a h r = let w = (tr.opened k h r).1 q.place a in let b = tr.below k h in omega (arith, w, b, q.level)

  pub before_decision : (j : ℕ) → j < length t → (entry t j).level < d → j < q.place
  before_decision j h b = elim (cases_lt j q.place) [
    | inl a ↦ a
    | inr a ↦ elim (cases_lt q.place j) [
      | inl x ↦ absurd (let z = tr.rising q.place j x h in omega (arith, z, q.level))
      | inr x ↦ absurd (let e : j ≡ q.place = omega arith in let z = ap (λ i. (entry t i).level) e in omega (arith, z, q.level))
    ]
  ]

  pub is_decision : (j : ℕ) → j < length t → d ≤ (entry t j).level → (entry t j).reason ≡ None → j ≡ q.place
  is_decision j h b r = elim (cases_lt j q.place) [
    | inl a ↦ absurd (let z = (tr.opened q.place q.inside q.decided).1 j a in omega (arith, z, q.level))
    | inr a ↦ elim (cases_lt q.place j) [ inl x ↦ absurd (forced_after j x h r) | inr x ↦ omega arith ]
  ]

  pub others_before : (m : Literal) → Kept t d 0 m → (m ≡ negated (entry t q.place).lit) ⊎ Contains (lits (take q.place t)) (negated m)
  others_before m k = elim (cases_lt (entry t k.place).level d) [
    | inl a ↦ inr (subst (Contains (lits (take q.place t))) k.is (at_before t q.place k.place (before_decision k.place k.inside a) (omega (arith, q.inside))))
    | inr b ↦ elim k.why [
      | inl a ↦ absurd (omega arith)
      | inr r ↦ (let e = is_decision k.place k.inside b r in inl (sym (negated-negated m) ∙ ap negated (sym k.is) ∙ ap (λ i. negated (entry t i).lit) e))
    ]
  ]

  module _ (named : ℕ → List Literal → Type 0) (hand : List (List Literal)) (at : (id : ℕ) (c : List Literal) → named id c → Contains hand c) (quiet : IsQuiet hand (lits (take q.place t))) (clause : List Literal) (hints : List ℕ) (kept : (m : Literal) → Contains clause m → Kept t d 0 m) (leads : Leads named (map negated clause) hints) where
    -- the negation of the decision is learned
    pub has_decision : Contains clause (negated (entry t q.place).lit)
    has_decision = elim (contains_or_not clause (negated (entry t q.place).lit)) [
      | inl a ↦ a
      | inr n ↦ absurd (cannot_lead named hand at (lits (take q.place t)) quiet hints (map negated clause) (λ l c. below l (Contains-negated clause l c) n) leads)
    ]
      where
        below : (l : Literal) → Contains clause (negated l) → (Contains clause (negated (entry t q.place).lit) → ⊥) → Contains (lits (take q.place t)) l
        below l c n = elim (others_before (negated l) (kept (negated l) c)) [
          | inl e ↦ absurd (n (subst (Contains clause) e c))
          | inr o ↦ subst (Contains (lits (take q.place t))) (negated-negated l) o
        ]

    whole_is : newest t (length t) ≡ span t (suc q.place) (length t - suc q.place) ++ decision_of (entry t q.place).lit ∷ newest t q.place
    unfolding newest held_entry
    whole_is =
        let size : length t ≡ suc q.place + (length t - suc q.place) = omega (arith, q.inside) in
        ap (newest t) size ∙ span-newest t (suc q.place) (length t - suc q.place) ∙ ap (λ o. span t (suc q.place) (length t - suc q.place) ++ record { lit = (entry t q.place).lit; decided = not (is_some o) } ∷ newest t q.place) q.decided

    pub is_fresh : (inputs : ℕ) → AreForced named t → ((k : ℕ) → k < length t → 1 ≤ (entry t k).lit.var) → ((k : ℕ) → k < length t → (entry t k).reason ≡ None → (entry t k).lit.var ≤ inputs) → (c : List Literal) → Contains hand c → IsFalse (lits t) c → ((l : Literal) → Contains clause l → Hinted named (map negated clause) hints l) → IsFresh hand named inputs clause hints
    is_fresh inputs reasons low only c m f hinted = record {
      trail = newest t q.place;
      decision = (entry t q.place).lit;
      forced = span t (suc q.place) (length t - suc q.place);
      lawful = subst (Lawful hand inputs) whole_is (Lawful-newest named hand at inputs t d tr reasons low only (length t) (omega arith));
      all_forced = span-forced t (suc q.place) (length t - suc q.place) (omega (arith, q.inside)) (λ k a. forced_after k (omega arith));
      quiet = quiet_same hand (lits (take q.place t)) (held_lits (newest t q.place)) (λ l. Holds-to t q.place l (omega (arith, q.inside))) (λ l. Holds-from t q.place l (omega (arith, q.inside))) quiet;
      conflict = (c, (m, subst (λ w. IsFalse (held_lits w) c) whole_is (All-weaker (λ l. Contains (lits t) (negated l)) (λ l. Contains (held_lits (newest t (length t))) (negated l)) (λ l y. Holds-to t (length t) (negated l) (omega arith) (subst (λ u. Contains (lits u) (negated l)) (sym (take_all (length t) t (omega arith))) y)) c f)));
      negation = has_decision;
      others = All-from_contains (λ m. (m ≡ negated (entry t q.place).lit) ⊎ Contains (held_lits (newest t q.place)) (negated m)) clause (λ m i. elim (others_before m (kept m i)) [ inl e ↦ inl e | inr o ↦ inr (Holds-to t q.place (negated m) (omega (arith, q.inside)) o) ]);
      hinted = hinted;
    }

-- the learned clause is neither false nor unit before a decision that stands
module _ (t : List Entry) (d : ℕ) (tr : IsTrail t d) (q : Decision t d) (clause : List Literal) (has : Contains clause (negated (entry t q.place).lit)) (level : ℕ) (g : Greatest t d clause level) where
  pub stays_quiet : (k : ℕ) → k < q.place → (entry t k).reason ≡ None → (entry t k).level ≤ level → (IsFalse (lits (take k t)) clause → ⊥) × ((u : Literal) → IsUnit (lits (take k t)) clause u → ⊥)
  stays_quiet k h r b = (
    λ f. open_decision (All-contains (λ l. Contains (lits (take k t)) (negated l)) clause (negated (entry t q.place).lit) f has),
    λ u i. by_greatest u i g.is,
  )
    where
      hk : k < length t
      hk = omega (arith, q.inside)

      open_decision : Contains (lits (take k t)) (negated (negated (entry t q.place).lit)) → ⊥
      open_decision c =
          let w = place_before t k (negated (negated (entry t q.place).lit)) (omega (arith, hk)) c in
          tr.apart w.0 q.place (omega (arith, w.1.0)) q.inside (ap (λ x. x.var) w.1.1)

      by_greatest : (u : Literal) → IsUnit (lits (take k t)) clause u → ((level ≡ 0) ⊎ ((m : Literal) × (Contains clause m × ((j : ℕ) × ((j < length t) × ((entry t j).lit ≡ negated m) × ((entry t j).level ≡ level) × (level < d)))))) → ⊥
      by_greatest u i (inl z) = let w = (tr.opened k hk r).0 in omega (arith, w)
      by_greatest u i (inr w) =
          let m = w.0 in
          let j = w.1.1.0 in
          let p = w.1.1.1 in
          let first : negated (entry t q.place).lit ≡ u = elim (All-contains (λ y. (y ≡ u) ⊎ Contains (lits (take k t)) (negated y)) clause (negated (entry t q.place).lit) i.others has) [ inl e ↦ e | inr c ↦ absurd (open_decision c) ] in
          let second : m ≡ u = elim (All-contains (λ y. (y ≡ u) ⊎ Contains (lits (take k t)) (negated y)) clause m i.others w.1.0) [
            | inl e ↦ e
            | inr c ↦ absurd (let v = place_before t k (negated m) (omega (arith, hk)) c in
                let vl : v.0 < length t = omega (arith, v.1.0, hk) in
                let same = one_place t d tr v.0 j vl p.0 (ap (λ x. x.var) (v.1.1 ∙ sym p.1)) in
                let lt = (tr.opened k hk r).1 v.0 v.1.0 in
                let lv = ap (λ i. (entry t i).level) same in
                omega (arith, lt, lv, p.2))
          ] in
          let one : (entry t j).lit ≡ (entry t q.place).lit = p.1 ∙ ap negated (second ∙ sym first) ∙ negated-negated (entry t q.place).lit in
          let here_too = one_place t d tr j q.place p.0 q.inside (ap (λ x. x.var) one) in
          let lv = ap (λ i. (entry t i).level) here_too in
          omega (arith, lv, p.2, p.3, q.level)

  -- after going back the learned clause may be added
  module _ (n : ℕ) (le : n ≤ length t) (low : (k : ℕ) → k < n → (entry t k).level ≤ level) (undone : (k : ℕ) → n ≤ k → k < length t → level < (entry t k).level) (less : level < d) (kept : (m : Literal) → Contains clause m → Kept t d 0 m) where
    stood : (j : ℕ) → j < length t → (entry t j).level ≤ level → j < n
    stood j h b = elim (cases_lt j n) [ inl a ↦ a | inr a ↦ absurd (let w = undone j (omega arith) h in omega (arith, w)) ]

    gone : n ≤ q.place
    gone = elim (cases_lt q.place n) [ inl a ↦ absurd (let w = low q.place a in omega (arith, w, q.level)) | inr a ↦ omega arith ]

    not_there : (l : Literal) → l.var ≡ (entry t q.place).lit.var → Contains (lits (take n t)) l → ⊥
    not_there l e c =
        let w = place_before t n l le c in
        tr.apart w.0 q.place (omega (arith, w.1.0, gone)) q.inside (ap (λ x. x.var) w.1.1 ∙ e)

    below : (m : Literal) → Contains clause m → (k : Kept t d 0 m) → (entry t k.place).level < d → Contains (lits (take n t)) (negated m)
    below m i k b = subst (Contains (lits (take n t))) k.is (at_before t n k.place (stood k.place k.inside (g.bound m i k.place k.inside k.is b)) le)

    others : (m : Literal) → Contains clause m → (m ≡ negated (entry t q.place).lit) ⊎ Contains (lits (take n t)) (negated m)
    others m i = let k = kept m i in
        elim (cases_lt (entry t k.place).level d) [
          | inl a ↦ inr (below m i k a)
          | inr b ↦ elim k.why [
            | inl a ↦ absurd (omega arith)
            | inr r ↦ (let e = is_decision t d tr q k.place k.inside b r in inl (sym (negated-negated m) ∙ ap negated (sym k.is) ∙ ap (λ i. negated (entry t i).lit) e))
          ]
        ]

    unit : IsUnit (lits (take n t)) clause (negated (entry t q.place).lit)
    unit = record {
      member = has;
      not_true = not_there (negated (entry t q.place).lit) refl;
      not_false = not_there (negated (negated (entry t q.place).lit)) refl;
      others = All-from_contains (λ m. (m ≡ negated (entry t q.place).lit) ⊎ Contains (lits (take n t)) (negated m)) clause others;
    }

    pub may_add : (u : List Entry) (e : ℕ) → u ≡ take n t → e ≡ level → ((k : ℕ) → k < n → entry u k ≡ entry t k) → length u ≡ n → MayAdd u e clause
    may_add u e is deep same long = elim g.is [
      | inl z ↦ inl (deep ∙ z)
      | inr w ↦ inr (record {
        lit = negated (entry t q.place).lit;
        unit = subst (λ x. IsUnit (lits x) clause (negated (entry t q.place).lit)) (sym is) unit;
        late = inr (let m = w.0 in
            let j = w.1.1.0 in
            let p = w.1.1.1 in
            let at : j < n = stood j p.0 (omega (arith, p.2)) in
            record {
              place = j;
              inside = omega (arith, long, at);
              member = subst (Contains clause) (sym (negated-negated m) ∙ ap negated (sym p.1 ∙ ap (λ x. x.lit) (sym (same j at)))) w.1.0;
              level = ap (λ x. x.level) (same j at) ∙ p.2 ∙ sym deep;
            });
      })
    ]
