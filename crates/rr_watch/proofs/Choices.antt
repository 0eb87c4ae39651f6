-- the choice of a literal to watch
use Rattle.std.proofs.Common.{◌≡◌, ◌⊎◌, inl, inr, ℕ, Bool, true, false, not, ◌+◌, ◌<◌, ◌≤◌, List, [], ◌∷◌, ◌++◌, length, get_or, take, refl, sym, ◌∙◌, ap, subst, arith}
use Rattle.std.specs.Prelude.{Contains, Option, Some, None, is_some}
use Rattle.std.proofs.lemmas.List.{take_more, take_all, get_or_default}
use Rattle.std.proofs.lemmas.List.Elements.{Contains-push_cases}
use Rattle.std.proofs.lemmas.Bool.{cases_lt, true≢false, false≢true}
use Rattle.rr_cnf.specs.Clauses.{Literal, negated}
use Rattle.rr_trail.specs.Trails.{Entry, lits}
use Rattle.rr_watch.specs.Lists.{literal_at, RankIs, IsApart, BestIs, IsReplacement, IsReplacementIn}

-- the best of the first literals
pub record Best (t : List Entry) (c : List Literal) (o : Option Literal) (i p rank : ℕ) : Type 0 where
  pub inside : p < i
  pub apart : IsApart (literal_at c p) o
  pub ranked : RankIs t (literal_at c p) rank
  pub greatest : (m : Literal) → Contains (take i c) m → IsApart m o → (r : ℕ) × (RankIs t m r × (r ≤ rank))

abbrev pub Chosen : List Entry → List Literal → Option Literal → ℕ → Option ℕ → ℕ → Type 0
Chosen t c o i None rank = (m : Literal) → Contains (take i c) m → IsApart m o → ⊥
Chosen t c o i (Some p) rank = Best t c o i p rank

module _ (t : List Entry) (c : List Literal) (o : Option Literal) (i : ℕ) (l : Literal) (b : i < length c) (e : l ≡ get_or c i l) where
  next : take (i + 1) c ≡ take i c ++ l ∷ []
  next = take_more c i l b ∙ ap (λ x. take i c ++ x ∷ []) (sym e)

  here : literal_at c i ≡ l
  here = sym (e ∙ get_or_default c i l _ b)

  cases : (m : Literal) → Contains (take (i + 1) c) m → Contains (take i c) m ⊎ (l ≡ m)
  cases m x = Contains-push_cases (take i c) l m (subst (λ y. Contains y m) next x)

  -- a literal that is not apart
  pub Chosen-same : (found : Option ℕ) (rank : ℕ) → (IsApart l o → ⊥) → Chosen t c o i found rank → Chosen t c o (i + 1) found rank
  Chosen-same None rank n f = λ m x a. elim (cases m x) [ inl y ↦ f m y a | inr y ↦ n (subst (λ z. IsApart z o) (sym y) a) ]
  Chosen-same (Some p) rank n f = record {
    inside = omega (arith, f.inside);
    apart = f.apart;
    ranked = f.ranked;
    greatest = λ m x a. elim (cases m x) [ inl y ↦ f.greatest m y a | inr y ↦ absurd (n (subst (λ z. IsApart z o) (sym y) a)) ];
  }

  -- the first one, or a better one
  pub Chosen-new : (found : Option ℕ) (rank r : ℕ) → IsApart l o → RankIs t l r → ((found ≡ None) ⊎ (rank ≤ r)) → Chosen t c o i found rank → Chosen t c o (i + 1) (Some i) r
  Chosen-new found rank r a k w f = record {
    inside = omega arith;
    apart = subst (λ z. IsApart z o) (sym here) a;
    ranked = subst (λ z. RankIs t z r) (sym here) k;
    greatest = λ m x am. elim (cases m x) [ inl y ↦ old found w f m y am | inr y ↦ (r, (subst (λ z. RankIs t z r) y k, omega arith)) ];
  }
    where
      old : (found : Option ℕ) → ((found ≡ None) ⊎ (rank ≤ r)) → Chosen t c o i found rank → (m : Literal) → Contains (take i c) m → IsApart m o → (s : ℕ) × (RankIs t m s × (s ≤ r))
      old None w f m y am = absurd (f m y am)
      old (Some p) (inl w) f m y am = absurd (let z : Some p ≡ None = w in cc)
      old (Some p) (inr w) f m y am = (let g = f.greatest m y am in (g.0, (g.1.0, omega (arith, g.1.1))))

  -- one that is not better
  pub Chosen-less : (p rank r : ℕ) → RankIs t l r → r ≤ rank → Chosen t c o i (Some p) rank → Chosen t c o (i + 1) (Some p) rank
  Chosen-less p rank r k le f = record {
    inside = omega (arith, f.inside);
    apart = f.apart;
    ranked = f.ranked;
    greatest = λ m x a. elim (cases m x) [ inl y ↦ f.greatest m y a | inr y ↦ (r, (subst (λ z. RankIs t z r) y k, le)) ];
  }

pub Chosen-all : (t : List Entry) (c : List Literal) (o : Option Literal) (i : ℕ) (found : Option ℕ) (rank : ℕ) → length c ≤ i → i ≤ length c → Chosen t c o i found rank → BestIs t c o found
Chosen-all t c o i None rank h le f = λ m x. f m (subst (λ y. Contains y m) (sym (take_all i c h)) x)
Chosen-all t c o i (Some p) rank h le f = record {
  inside = omega (arith, f.inside);
  apart = f.apart;
  rank = rank;
  ranked = f.ranked;
  greatest = λ m x. f.greatest m (subst (λ y. Contains y m) (sym (take_all i c h)) x);
}

pub missing : (o : Option ℕ) (b : Bool) → is_some o ≡ not b → b ≡ true → o ≡ None
missing None b e t = refl
missing (Some x) true e t = absurd (true≢false e)
missing (Some x) false e t = absurd (false≢true t)

pub found_is : (o : Option ℕ) (b : Bool) → is_some o ≡ not b → b ≡ false → (p : ℕ) × (o ≡ Some p)
found_is None true e t = absurd (true≢false t)
found_is None false e t = absurd (false≢true e)
found_is (Some x) b e t = (x, refl)

-- a clause that is gone over from a place on, and then up to it
pub gone_round : (t : List Entry) (c : List Literal) (o : Literal) (from : ℕ) (r : Option ℕ) → IsReplacementIn t c o from (length c) None → IsReplacementIn t c o 0 from r → IsReplacement t c o r
gone_round t c o from None f g = λ k d b. subst (λ m. (m ≡ o) ⊎ Contains (lits t) (negated m)) (get_or_default c k (record { var = 0; negative = false }) d b) (elim (cases_lt k from) [ inl x ↦ g k (omega arith) x | inr x ↦ f k x b ])
gone_round t c o from (Some p) f g = g

pub not_false : (b : Bool) → not b ≡ false → b ≡ true
not_false true e = refl
not_false false e = absurd (true≢false e)

pub not_true : (b : Bool) → not b ≡ true → b ≡ false
not_true false e = refl
not_true true e = absurd (false≢true e)
