-- trails that grow and shrink at their end
use Rattle.std.proofs.Common.{◌≡◌, ◌⊎◌, inl, inr, ℕ, suc, zero, ◌+◌, ◌<◌, ◌≤◌, cond, List, [], ◌∷◌, ◌++◌, length, get_or, take, refl, sym, ◌∙◌, ap, subst, arith}
use Rattle.std.specs.Prelude.{All, Contains, Option, Some, None, is_some}
use Rattle.std.proofs.Math.Seq.{get_or-append_seam, take-append_seam}
use Rattle.std.proofs.lemmas.List.{get_or_append_left, take-append-le, get_or-take, length-take-le, length_push, length-map, get_or-map, take_all, take_more}
use Rattle.std.proofs.lemmas.List.Elements.{All-contains, Contains-get_or}
use Rattle.std.proofs.lemmas.List.Sums.{sum_by_push, sum_by-cons}
use Rattle.std.proofs.lemmas.Bool.{cases_lt}
use Rattle.rr_cnf.specs.Clauses.{Literal}
use Rattle.rr_trail.specs.Trails.{Entry, lits, entry, decisions, Forces, Decision, IsTrail, AreForced, MayStand}

pub All-from_contains : {X : Type 0} (P : X → Type 0) (xs : List X) → ((x : X) → Contains xs x → P x) → All P xs
All-from_contains P xs f = λ k d h. f (get_or xs k d) (Contains-get_or xs k d h)

module _ (t : List Entry) (e : Entry) where
  pub entry_old : (k : ℕ) → k < length t → entry (t ++ e ∷ []) k ≡ entry t k
  entry_old k h = get_or_append_left t (e ∷ []) _ k h

  pub entry_new : entry (t ++ e ∷ []) (length t) ≡ e
  entry_new = get_or-append_seam t e [] _

  pub take_old : (k : ℕ) → k ≤ length t → take k (t ++ e ∷ []) ≡ take k t
  take_old k h = take-append-le k t (e ∷ []) h

  pub place_cases : (k : ℕ) → k < length (t ++ e ∷ []) → (k < length t) ⊎ (k ≡ length t)
  place_cases k h = elim (cases_lt k (length t)) [ inl a ↦ inl a | inr b ↦ inr (omega (arith, length_push t e)) ]

  pub decisions_push : decisions (t ++ e ∷ []) ≡ decisions t + cond (is_some e.reason) 0 1
  decisions_push = sum_by_push (λ (x : Entry). cond (is_some x.reason) 0 1) t e

pub length_lits : (t : List Entry) → length (lits t) ≡ length t
length_lits t = length-map t (λ e. e.lit)

pub lit_at : (t : List Entry) (k : ℕ) (d : Literal) → k < length t → get_or (lits t) k d ≡ (entry t k).lit
lit_at t k d h = get_or-map (λ e. e.lit) t k _ d h

pub holds_at : (t : List Entry) (k : ℕ) → k < length t → Contains (lits t) (entry t k).lit
holds_at t k h = (k, omega (arith, length_lits t), lit_at t k _ h)

-- each true literal has its place
pub place_of : (t : List Entry) (l : Literal) → Contains (lits t) l → (k : ℕ) × ((k < length t) × ((entry t k).lit ≡ l))
place_of t l c = let h : c.0 < length t = omega (arith, length_lits t, c.1) in (c.0, (h, sym (lit_at t c.0 l h) ∙ c.2))

pub apart_at : (t : List Entry) (v : ℕ) → All (λ m. m.var ≡ v → ⊥) (lits t) → (j : ℕ) → j < length t → (entry t j).lit.var ≡ v → ⊥
apart_at t v h j k e = All-contains (λ m. m.var ≡ v → ⊥) (lits t) (entry t j).lit h (holds_at t j k) e

abbrev weight : Option ℕ → ℕ
weight r = cond (is_some r) 0 1

weight_decided : (r : Option ℕ) → r ≡ None → weight r ≡ 1
weight_decided r e = ap weight e

weight_forced : (r : Option ℕ) (id : ℕ) → r ≡ Some id → weight r ≡ 0
weight_forced r id e = ap weight e

pub decisions_more : (t : List Entry) (k : ℕ) → k < length t → decisions (take (k + 1) t) ≡ decisions (take k t) + cond (is_some (entry t k).reason) 0 1
decisions_more t k h = ap decisions (take_more t k _ h) ∙ decisions_push (take k t) (entry t k)

weight-le : (r : Option ℕ) → weight r ≤ 1
weight-le None = omega arith
weight-le (Some x) = omega arith

pub decisions-le : (t : List Entry) → decisions t ≤ length t
decisions-le [] = omega arith
decisions-le (e ∷ t) = omega (arith, sum_by-cons (λ (x : Entry). weight x.reason) e t, weight-le e.reason, decisions-le t)

-- the trail grows by one entry
module _ (t : List Entry) (d : ℕ) (tr : IsTrail t d) (e : Entry)
    (alone : (j : ℕ) → j < length t → (entry t j).lit.var ≡ e.lit.var → ⊥)
    (stands : MayStand d e) where
  higher : d ≤ e.level
  higher = elim stands [ inl a ↦ omega (arith, a.1) | inr b ↦ omega (arith, b.0) ]

  lower : (k : ℕ) → k < length t → (entry t k).level ≤ e.level
  lower k h = omega (arith, tr.below k h, higher)

  counts : e.level ≡ decisions (t ++ e ∷ [])
  counts = elim stands [
    | inl a ↦ (let w = weight_decided e.reason a.0 in omega (arith, a.1, w, decisions_push t e, tr.deep))
    | inr b ↦ (let w = weight_forced e.reason b.1.0 b.1.1 in omega (arith, b.0, w, decisions_push t e, tr.deep))
  ]

  old : (P : Entry → Type 0) (k : ℕ) → k < length t → P (entry t k) → P (entry (t ++ e ∷ []) k)
  old P k h = subst P (sym (entry_old t e k h))

  new : (P : Entry → Type 0) (k : ℕ) → k ≡ length t → P e → P (entry (t ++ e ∷ []) k)
  new P k q p = subst (λ i. P (entry (t ++ e ∷ []) i)) (sym q) (subst P (sym (entry_new t e)) p)

  from_old : (P : Entry → Type 0) (k : ℕ) → k < length t → P (entry (t ++ e ∷ []) k) → P (entry t k)
  from_old P k h = subst P (entry_old t e k h)

  from_new : (P : Entry → Type 0) (k : ℕ) → k ≡ length t → P (entry (t ++ e ∷ []) k) → P e
  from_new P k q p = subst P (entry_new t e) (subst (λ i. P (entry (t ++ e ∷ []) i)) q p)

  Decision-old : (n : ℕ) → Decision t n → Decision (t ++ e ∷ []) n
  Decision-old n q = record {
    place = q.place;
    inside = omega (arith, q.inside, length_push t e);
    decided = old (λ x. x.reason ≡ None) q.place q.inside q.decided;
    level = old (λ x. x.level ≡ n) q.place q.inside q.level;
  }

  new_opened : e.reason ≡ None → (1 ≤ e.level) × ((j : ℕ) → j < length t → (entry t j).level < e.level)
  new_opened r = elim stands [
    | inl a ↦ (omega (arith, a.1), λ j h. omega (arith, a.1, tr.below j h))
    | inr b ↦ absurd (let w = b.1.1 in let z : None ≡ Some b.1.0 = sym r ∙ w in cc)
  ]

  pub IsTrail-push : IsTrail (t ++ e ∷ []) e.level
  IsTrail-push = record {
    apart = λ j k a h q. elim (place_cases t e k h) [
      | inl i ↦ (let hj : j < length t = omega arith in tr.apart j k a i (ap (λ x. x.lit.var) (sym (entry_old t e j hj)) ∙ q ∙ ap (λ x. x.lit.var) (entry_old t e k i)))
      | inr i ↦ (let hj : j < length t = omega arith in alone j hj (ap (λ x. x.lit.var) (sym (entry_old t e j hj)) ∙ from_new (λ x. (entry (t ++ e ∷ []) j).lit.var ≡ x.lit.var) k i q))
    ];
    counted = λ k h. elim (place_cases t e k h) [
      | inl i ↦ old (λ x. x.level ≡ decisions (take (k + 1) (t ++ e ∷ []))) k i (tr.counted k i ∙ ap decisions (sym (take_old t e (k + 1) (omega arith))))
      | inr i ↦ new (λ x. x.level ≡ decisions (take (k + 1) (t ++ e ∷ []))) k i (counts ∙ ap decisions (sym (take_all (k + 1) (t ++ e ∷ []) (omega (arith, length_push t e)))))
    ];
    deep = counts;
    rising = λ j k a h. elim (place_cases t e k h) [
      | inl i ↦ (let hj : j < length t = omega arith in old (λ x. x.level ≤ (entry (t ++ e ∷ []) k).level) j hj (old (λ x. (entry t j).level ≤ x.level) k i (tr.rising j k a i)))
      | inr i ↦ (let hj : j < length t = omega arith in old (λ x. x.level ≤ (entry (t ++ e ∷ []) k).level) j hj (new (λ x. (entry t j).level ≤ x.level) k i (lower j hj)))
    ];
    opened = λ k h r. elim (place_cases t e k h) [
      | inl i ↦ (let w = tr.opened k i (from_old (λ x. x.reason ≡ None) k i r) in
          (old (λ x. 1 ≤ x.level) k i w.0, λ j a. let hj : j < length t = omega arith in old (λ x. x.level < (entry (t ++ e ∷ []) k).level) j hj (old (λ x. (entry t j).level < x.level) k i (w.1 j a))))
      | inr i ↦ (let w = new_opened (from_new (λ x. x.reason ≡ None) k i r) in
          (new (λ x. 1 ≤ x.level) k i w.0, λ j a. let hj : j < length t = omega arith in old (λ x. x.level < (entry (t ++ e ∷ []) k).level) j hj (new (λ x. (entry t j).level < x.level) k i (w.1 j hj))))
    ];
    below = λ k h. elim (place_cases t e k h) [
      | inl i ↦ old (λ x. x.level ≤ e.level) k i (lower k i)
      | inr i ↦ new (λ x. x.level ≤ e.level) k i (omega arith)
    ];
    begun = λ n a b. elim (cases_lt d n) [
      | inl i ↦ elim stands [
        | inl s ↦ record {
          place = length t;
          inside = omega (arith, length_push t e);
          decided = new (λ x. x.reason ≡ None) (length t) refl s.0;
          level = new (λ x. x.level ≡ n) (length t) refl (omega (arith, s.1));
        }
        | inr s ↦ absurd (omega (arith, s.0))
      ]
      | inr i ↦ Decision-old n (tr.begun n a i)
    ];
  }

pub take_take : {X : Type 0} (k n : ℕ) (xs : List X) → k ≤ n → take k (take n xs) ≡ take k xs
take_take zero n xs h = refl
take_take (suc k) zero xs h = absurd (omega arith)
take_take (suc k) (suc n) [] h = refl
take_take (suc k) (suc n) (x ∷ xs) h = ap (λ t. x ∷ t) (take_take k n xs (omega arith))

-- the trail is cut
module _ (t : List Entry) (d : ℕ) (tr : IsTrail t d) where
  module _ (n : ℕ) (h : n ≤ length t) where
    pub entry_take : (k : ℕ) → k < n → entry (take n t) k ≡ entry t k
    entry_take k a = get_or-take n t k _ a

    long : length (take n t) ≡ n
    long = length-take-le n t h

    there : (P : Entry → Type 0) (k : ℕ) → k < n → P (entry t k) → P (entry (take n t) k)
    there P k a = subst P (sym (entry_take k a))

    here : (P : Entry → Type 0) (k : ℕ) → k < n → P (entry (take n t) k) → P (entry t k)
    here P k a = subst P (entry_take k a)

    pub IsTrail-take : (m : ℕ) → m ≡ decisions (take n t) → ((k : ℕ) → k < n → (entry t k).level ≤ m) → ((i : ℕ) → 1 ≤ i → i ≤ m → (q : Decision t i) × (q.place < n)) → IsTrail (take n t) m
    IsTrail-take m deep low has = record {
      apart = λ j k a b q. let hk : k < n = omega (arith, long) in let hj : j < n = omega (arith, long) in
          tr.apart j k a (omega arith) (ap (λ x. x.lit.var) (sym (entry_take j hj)) ∙ q ∙ ap (λ x. x.lit.var) (entry_take k hk));
      counted = λ k b. let hk : k < n = omega (arith, long) in
          there (λ x. x.level ≡ decisions (take (k + 1) (take n t))) k hk (tr.counted k (omega arith) ∙ ap decisions (sym (take_take (k + 1) n t (omega arith))));
      deep = deep;
      rising = λ j k a b. let hk : k < n = omega (arith, long) in let hj : j < n = omega (arith, long) in
          there (λ x. x.level ≤ (entry (take n t) k).level) j hj (there (λ x. (entry t j).level ≤ x.level) k hk (tr.rising j k a (omega arith)));
      opened = λ k b r. let hk : k < n = omega (arith, long) in
          let w = tr.opened k (omega arith) (here (λ x. x.reason ≡ None) k hk r) in
          (there (λ x. 1 ≤ x.level) k hk w.0, λ j a. let hj : j < n = omega arith in there (λ x. x.level < (entry (take n t) k).level) j hj (there (λ x. (entry t j).level < x.level) k hk (w.1 j a)));
      below = λ k b. let hk : k < n = omega (arith, long) in there (λ x. x.level ≤ m) k hk (low k hk);
      begun = λ i a b. let q = has i a b in record {
        place = q.0.place;
        inside = omega (arith, long, q.1);
        decided = there (λ x. x.reason ≡ None) q.0.place q.1 q.0.decided;
        level = there (λ x. x.level ≡ i) q.0.place q.1 q.0.level;
      };
    }

-- the reasons of a trail that grows
pub AreForced-push : (named : ℕ → List Literal → Type 0) (t : List Entry) (e : Entry) → AreForced named t → ((id : ℕ) → e.reason ≡ Some id → (c : List Literal) × (named id c × Forces (lits t) c e.lit)) → AreForced named (t ++ e ∷ [])
AreForced-push named t e f g = λ k id h r. elim (place_cases t e k h) [
  | inl i ↦ (let w = f k id i (subst (λ x. x.reason ≡ Some id) (entry_old t e k i) r) in
      record {
        clause = w.clause;
        name = w.name;
        forces = subst (λ p. Forces (lits p) w.clause (entry (t ++ e ∷ []) k).lit) (sym (take_old t e k (omega arith))) (subst (λ x. Forces (lits (take k t)) w.clause x.lit) (sym (entry_old t e k i)) w.forces);
      })
  | inr i ↦ (let at_end : entry (t ++ e ∷ []) k ≡ e = ap (entry (t ++ e ∷ [])) i ∙ entry_new t e in
      let w = g id (ap (λ x. x.reason) (sym at_end) ∙ r) in
      record {
        clause = w.0;
        name = w.1.0;
        forces = subst (λ p. Forces (lits p) w.0 (entry (t ++ e ∷ []) k).lit) (sym (ap (λ i. take i (t ++ e ∷ [])) i ∙ take-append_seam t (e ∷ []))) (subst (λ x. Forces (lits t) w.0 x.lit) (sym at_end) w.1.1);
      })
]

pub AreForced-take : (named : ℕ → List Literal → Type 0) (t : List Entry) (n : ℕ) → n ≤ length t → AreForced named t → AreForced named (take n t)
AreForced-take named t n le f = λ k id h r.
    let hk : k < n = omega (arith, length-take-le n t le) in
    let e : entry (take n t) k ≡ entry t k = get_or-take n t k _ hk in
    let w = f k id (omega arith) (subst (λ x. x.reason ≡ Some id) e r) in
    record {
      clause = w.clause;
      name = w.name;
      forces = subst (λ p. Forces (lits p) w.clause (entry (take n t) k).lit) (sym (take_take k n t (omega arith))) (subst (λ x. Forces (lits (take k t)) w.clause x.lit) (sym e) w.forces);
    }

pub AreForced-more : (named more : ℕ → List Literal → Type 0) → ((id : ℕ) (c : List Literal) → named id c → more id c) → (t : List Entry) → AreForced named t → AreForced more t
AreForced-more named more up t f = λ k id h r. let w = f k id h r in record { clause = w.clause; name = up id w.clause w.name; forces = w.forces }
