-- the look at a clause, literal by literal
use Rattle.std.proofs.Common.{◌≡◌, ◌⊎◌, inl, inr, ℕ, ◌+◌, ◌*◌, ◌<◌, Bool, true, false, not, cond, List, [], ◌∷◌, ◌++◌, length, get_or, set, map, take, drop, refl, sym, ◌∙◌, ap, subst, arith}
use Rattle.std.specs.Prelude.{All, Contains, Option, Some, None}
use Rattle.std.proofs.Math.Bool.{not-not}
use Rattle.std.proofs.lemmas.Bool.{true≢false, false≢true, cases_eq}
use Rattle.std.proofs.lemmas.List.{take_more, take-append-drop, map_push, length-set, length-map, get_or-map, get_or-set_same, get_or-set_other}
use Rattle.rr_derive.specs.Derive.{IsNoTautology}
use Rattle.std.proofs.lemmas.List.Elements.{All-push, All-nil, All-set, All-get_or, All-contains, Contains-get_or, Contains-append_left, Contains-push, Contains-push_cases, All-weaker}
use Rattle.rr_cnf.specs.Clauses.{Literal, negated}
use Rattle.rr_derive.specs.Marks.{mark_of, MarkedTrue, MarkedFalse, Unmarked, OpenIn, Represents}

pub take_read : {X : Type 0} (xs : List X) (i : ℕ) (x : X) → i < length xs → x ≡ get_or xs i x → take i xs ++ x ∷ [] ≡ take (i + 1) xs
take_read xs i x l e = ap (λ y. take i xs ++ y ∷ []) e ∙ sym (take_more xs i x l)

pub All-from_contains : {X : Type 0} (P : X → Type 0) (xs : List X) → ((x : X) → Contains xs x → P x) → All P xs
All-from_contains P xs f = λ k d h. f (get_or xs k d) (Contains-get_or xs k d h)

module _ (m : List ℕ) (s : ℕ) where
  pub OpenIn-false : (xs : List Literal) (o : Option Literal) (l : Literal) → OpenIn m s xs o → MarkedFalse m s l → OpenIn m s (xs ++ l ∷ []) o
  OpenIn-false xs None l h f = All-push (MarkedFalse m s) xs l h f
  OpenIn-false xs (Some k) l h f = (Contains-append_left xs (l ∷ []) k h.0, h.1, All-push (λ n. (n ≡ k) ⊎ MarkedFalse m s n) xs l h.2 (inr f))

  pub OpenIn-open : (xs : List Literal) (l : Literal) → OpenIn m s xs None → Unmarked m s l → OpenIn m s (xs ++ l ∷ []) (Some l)
  OpenIn-open xs l h u = (Contains-push xs l, u, All-push (λ n. (n ≡ l) ⊎ MarkedFalse m s n) xs l (All-weaker (MarkedFalse m s) (λ n. (n ≡ l) ⊎ MarkedFalse m s n) (λ n f. inr f) xs h) (inl refl))

  pub OpenIn-same : (xs : List Literal) (k l : Literal) → OpenIn m s xs (Some k) → l ≡ k → OpenIn m s (xs ++ l ∷ []) (Some k)
  OpenIn-same xs k l h e = (Contains-append_left xs (l ∷ []) k h.0, h.1, All-push (λ n. (n ≡ k) ⊎ MarkedFalse m s n) xs l h.2 (inl e))

pub negated-negated : (l : Literal) → negated (negated l) ≡ l
negated-negated l = ap (λ b. record { var = l.var; negative = b }) (not-not l.negative)

sign-apart : (b : Bool) (n : ℕ) → n + cond b 1 0 ≡ n + cond (not b) 1 0 → ⊥
sign-apart true n e = omega arith
sign-apart false n e = omega arith

sign-same : (a b : Bool) (n : ℕ) → n + cond a 1 0 ≡ n + cond b 1 0 → a ≡ b
sign-same true true n e = refl
sign-same true false n e = absurd (omega arith)
sign-same false true n e = absurd (omega arith)
sign-same false false n e = refl

pub sign-cases : (a b : Bool) → (a ≡ b) ⊎ (a ≡ not b)
sign-cases true true = inl refl
sign-cases true false = inr refl
sign-cases false true = inr refl
sign-cases false false = inl refl

module _ (m : List ℕ) (s : ℕ) where
  pub marked_apart : (l : Literal) → MarkedTrue m s l → MarkedFalse m s l → ⊥
  marked_apart l p q = sign-apart l.negative (2 * s) (sym p ∙ q)

  pub Unmarked-negated : (l : Literal) → Unmarked m s l → Unmarked m s (negated l)
  Unmarked-negated l u = (u.1, subst (λ k. MarkedTrue m s k → ⊥) (sym (negated-negated l)) u.0)

  pub Represents-none : All (λ k. k < 2 * s) m → Represents m s []
  Represents-none h = record {
    marked = λ l v c. absurd (omega (arith, c.1));
    holds = λ l v e. absurd (let k = All-get_or (λ k. k < 2 * s) m l.var 0 v h in omega arith);
  }

  pub Represents-again : (held : List Literal) (l : Literal) → Represents m s held → Contains held l → Represents m s (held ++ l ∷ [])
  Represents-again held l r h = record {
    marked = λ k v c. elim (Contains-push_cases held l k c) [ inl old ↦ r.marked k v old | inr e ↦ r.marked k v (subst (Contains held) e h) ];
    holds = λ k v e. Contains-append_left held (l ∷ []) k (r.holds k v e);
  }

  pub Represents-assume : (held : List Literal) (l : Literal) → Represents m s held → l.var < length m → Unmarked m s l → Represents (set m l.var (mark_of s l)) s (held ++ l ∷ [])
  Represents-assume held l r within u = record {
    marked = λ k v c. marked k (rw (← length-set m l.var (mark_of s l)) v) c (cases_eq k.var l.var);
    holds = λ k v e. holds k (rw (← length-set m l.var (mark_of s l)) v) e (cases_eq k.var l.var);
  }
    where
      here : (k : Literal) → k.var ≡ l.var → get_or (set m l.var (mark_of s l)) k.var 0 ≡ mark_of s l
      here k e = rw e (get_or-set_same m l.var (mark_of s l) 0 within)

      away : (k : Literal) → (k.var ≡ l.var → ⊥) → get_or (set m l.var (mark_of s l)) k.var 0 ≡ get_or m k.var 0
      away k ne = get_or-set_other m l.var k.var (mark_of s l) 0 ne

      -- a literal of that variable that was held would be marked
      old_same : (k : Literal) → k.var ≡ l.var → Contains held k → ⊥
      old_same k e c = by_sign (sign-cases k.negative l.negative)
        where
          is_marked : get_or m l.var 0 ≡ mark_of s k
          is_marked = subst (λ v. get_or m v 0 ≡ mark_of s k) e (r.marked k (rw e within) c)

          by_sign : ((k.negative ≡ l.negative) ⊎ (k.negative ≡ not l.negative)) → ⊥
          by_sign (inl q) = u.0 (is_marked ∙ ap (λ b. 2 * s + cond b 1 0) q)
          by_sign (inr q) = u.1 (is_marked ∙ ap (λ b. 2 * s + cond b 1 0) q)

      marked : (k : Literal) → k.var < length m → Contains (held ++ l ∷ []) k → ((k.var ≡ l.var) ⊎ (k.var ≡ l.var → ⊥)) → MarkedTrue (set m l.var (mark_of s l)) s k
      marked k v c (inl e) = elim (Contains-push_cases held l k c) [ inl old ↦ absurd (old_same k e old) | inr q ↦ here k e ∙ ap (mark_of s) q ]
      marked k v c (inr ne) = elim (Contains-push_cases held l k c) [ inl old ↦ away k ne ∙ r.marked k v old | inr q ↦ absurd (ne (ap (λ x. x.var) (sym q))) ]

      holds : (k : Literal) → k.var < length m → MarkedTrue (set m l.var (mark_of s l)) s k → ((k.var ≡ l.var) ⊎ (k.var ≡ l.var → ⊥)) → Contains (held ++ l ∷ []) k
      holds k v p (inl e) =
          let q : l.negative ≡ k.negative = sign-same l.negative k.negative (2 * s) (sym (here k e) ∙ p) in
          let same : l ≡ k = ap (λ x. record { var = x; negative = l.negative }) (sym e) ∙ ap (λ b. record { var = k.var; negative = b }) q in
          subst (Contains (held ++ l ∷ [])) same (Contains-push held l)
      holds k v p (inr ne) = Contains-append_left held (l ∷ []) k (r.holds k v (sym (away k ne) ∙ p))

-- the negations of a clause
pub Contains-negated : (xs : List Literal) (l : Literal) → Contains (map negated xs) l → Contains xs (negated l)
Contains-negated xs l c =
    let k = c.0 in
    let within : k < length xs = rw (← length-map xs negated) c.1 in
    let e : negated (get_or xs k (negated l)) ≡ l = sym (get_or-map negated xs k (negated l) l within) ∙ c.2 in
    (k, within, sym (negated-negated (get_or xs k (negated l))) ∙ ap negated e)

pub Contains-map_negated : (xs : List Literal) (l : Literal) → Contains xs (negated l) → Contains (map negated xs) l
Contains-map_negated xs l c =
    let k = c.0 in
    (k, rw length-map c.1, get_or-map negated xs k (negated l) l c.1 ∙ ap negated c.2 ∙ negated-negated l)

pub negated-apart : (l : Literal) → negated l ≡ l → ⊥
negated-apart l e = flip l.negative (ap (λ x. x.negative) e)
  where
    flip : (b : Bool) → not b ≡ b → ⊥
    flip true q = false≢true q
    flip false q = true≢false q

pub IsNoTautology-push : (xs : List Literal) (l : Literal) → IsNoTautology xs → (Contains xs (negated l) → ⊥) → IsNoTautology (xs ++ l ∷ [])
IsNoTautology-push xs l h n = All-from_contains (λ k. Contains (xs ++ l ∷ []) (negated k) → ⊥) (xs ++ l ∷ []) (λ m c neg. by_cases m (Contains-push_cases xs l m c) (Contains-push_cases xs l (negated m) neg))
  where
    by_cases : (m : Literal) → (Contains xs m ⊎ (l ≡ m)) → (Contains xs (negated m) ⊎ (l ≡ negated m)) → ⊥
    by_cases m (inl a) (inl b) = All-contains (λ k. Contains xs (negated k) → ⊥) xs m h a b
    by_cases m (inl a) (inr b) = n (subst (Contains xs) (sym (negated-negated m) ∙ ap negated (sym b)) a)
    by_cases m (inr a) (inl b) = n (subst (λ k. Contains xs (negated k)) (sym a) b)
    by_cases m (inr a) (inr b) = negated-apart m (sym b ∙ a)

-- the turns of taking a clause false
module _ (m : List ℕ) (s : ℕ) (xs : List Literal) (l : Literal) (r : Represents m s (map negated xs)) (within : l.var < length m) where
  negations-push : map negated (xs ++ l ∷ []) ≡ map negated xs ++ negated l ∷ []
  negations-push = map_push negated xs l

  pub no_negation : (MarkedTrue m s l → ⊥) → Contains xs (negated l) → ⊥
  no_negation n c = n (r.marked l within (Contains-map_negated xs l c))

  pub has_negation : MarkedTrue m s l → Contains xs (negated l)
  has_negation t = Contains-negated xs l (r.holds l within t)

  pub suppose-again : MarkedFalse m s l → Represents m s (map negated (xs ++ l ∷ []))
  suppose-again f = rw negations-push (Represents-again m s (map negated xs) (negated l) r (r.holds (negated l) within f))

  pub suppose-new : Unmarked m s l → Represents (set m l.var (mark_of s (negated l))) s (map negated (xs ++ l ∷ []))
  suppose-new u = rw negations-push (Represents-assume m s (map negated xs) (negated l) r within (Unmarked-negated m s l u))

pub mark_below : (s : ℕ) (l : Literal) → mark_of s l < 2 * s + 2
mark_below s l = by_sign l.negative
  where
    by_sign : (b : Bool) → 2 * s + cond b 1 0 < 2 * s + 2
    by_sign true = omega arith
    by_sign false = omega arith

-- the literals of xs are taken false
pub record Supposed (m : List ℕ) (s : ℕ) (xs : List Literal) : Type 0 where
  pub below : All (λ k. k < 2 * s + 2) m
  pub held : Represents m s (map negated xs)
  pub plain : IsNoTautology xs

pub Supposed-none : (m : List ℕ) (s : ℕ) → All (λ k. k < 2 * s) m → Supposed m s []
Supposed-none m s h = record {
  below = All-weaker (λ k. k < 2 * s) (λ k. k < 2 * s + 2) (λ k l. omega arith) m h;
  held = Represents-none m s h;
  plain = All-nil (λ k. Contains [] (negated k) → ⊥);
}

pub Supposed-again : (m : List ℕ) (s : ℕ) (xs : List Literal) (l : Literal) → Supposed m s xs → l.var < length m → MarkedFalse m s l → Supposed m s (xs ++ l ∷ [])
Supposed-again m s xs l r within f = record {
  below = r.below;
  held = suppose-again m s xs l r.held within f;
  plain = IsNoTautology-push xs l r.plain (no_negation m s xs l r.held within (λ t. marked_apart m s l t f));
}

pub Supposed-new : (m : List ℕ) (s : ℕ) (xs : List Literal) (l : Literal) → Supposed m s xs → l.var < length m → Unmarked m s l → Supposed (set m l.var (mark_of s (negated l))) s (xs ++ l ∷ [])
Supposed-new m s xs l r within u = record {
  below = All-set (λ k. k < 2 * s + 2) m l.var _ (mark_below s (negated l)) r.below;
  held = suppose-new m s xs l r.held within u;
  plain = IsNoTautology-push xs l r.plain (no_negation m s xs l r.held within u.0);
}

Contains-take : (xs : List Literal) (i : ℕ) (l : Literal) → Contains (take i xs) l → Contains xs l
Contains-take xs i l c = subst (λ ys. Contains ys l) (take-append-drop i xs) (Contains-append_left (take i xs) (drop i xs) l c)

-- a literal that is true already has its negation in the clause
pub Supposed-tautology : (m : List ℕ) (s : ℕ) (xs : List Literal) (i : ℕ) (l : Literal) → Supposed m s (take i xs) → i < length xs → l ≡ get_or xs i l → l.var < length m → MarkedTrue m s l → IsNoTautology xs → ⊥
Supposed-tautology m s xs i l r h e within t plain =
    let here : Contains xs l = (i, h, sym e) in
    All-contains (λ k. Contains xs (negated k) → ⊥) xs l plain here (Contains-take xs i (negated l) (has_negation m s (take i xs) l r.held within t))
