-- the literals of a clause in a set, by their numbers
use Rattle.std.proofs.Common.{ℕ, ◌≡◌, ◌∙◌, ◌⊎◌, inl, inr, Bool, true, false, not, cond, List, [], ◌∷◌, ◌++◌, take, drop, take-append-drop, refl, sym, ap, subst, arith}
use Rattle.std.specs.Prelude.{All, Contains}
use Rattle.std.specs.BTreeMap.{is_at}
use Rattle.std.specs.BTreeSet.{BTreeSet, IsEmpty, Updates, contains, insert_key}
use Rattle.std.specs.Ordering.{nat_cmp}
use Rattle.std.proofs.lemmas.Bool.{true≢false}
use Rattle.std.proofs.lemmas.Cmp.{nat_cmp_total}
use Rattle.std.proofs.lemmas.List.Elements.{All-contains, Contains-append_left, Contains-push, Contains-push_cases}
use Rattle.std.proofs.lemmas.Map.Lookups.{exact_unsigned}
use Rattle.std.proofs.lemmas.Map.Views.{All-insert_key, btree_set_contains_iff}
use Rattle.rr_cnf.specs.Clauses.{Literal, negated}
use Rattle.rr_cnf.specs.Codes.{code_of, same_code}
use Rattle.rr_derive.specs.Derive.{IsNoTautology}
use Rattle.rr_derive.specs.Lrat.{HasBothSigns}
use Rattle.rr_derive.proofs.MarkLaws.{All-from_contains, negated-negated}

-- the set has the numbers of these literals, of which none is another's negation
pub record Coded (codes : BTreeSet ℕ) (xs : List Literal) : Type 0 where
  pub has : (l : Literal) → Contains xs l → Contains codes.keys (code_of l)
  pub only : (l : Literal) → Contains codes.keys (code_of l) → Contains xs l
  pub apart : IsNoTautology xs

none_in : {X : Type 0} (x : X) → Contains [] x → ⊥
none_in x c = omega (arith, c.1)

pub Coded-none : (s : BTreeSet ℕ) → IsEmpty s → Coded s []
Coded-none s h = record {
  has = λ l c. absurd (none_in l c);
  only = λ l c. absurd (none_in (code_of l) (subst (λ ks. Contains ks (code_of l)) h c));
  apart = All-from_contains (λ l. Contains [] (negated l) → ⊥) [] (λ l c d. none_in l c);
}

negated-other : (l : Literal) → negated l ≡ l → ⊥
negated-other l e = by_sign l.negative (ap (λ x. x.negative) e)
  where
    by_sign : (b : Bool) → not b ≡ b → ⊥
    by_sign true q = true≢false (sym q)
    by_sign false q = true≢false q

module _ (s n : BTreeSet ℕ) (xs : List Literal) (l : Literal) (h : Coded s xs) (free : Contains s.keys (code_of (negated l)) → ⊥) (keys : n.keys ≡ insert_key nat_cmp s.keys (code_of l)) (added : Contains n.keys (code_of l)) where
  kept : (q : ℕ) → Contains n.keys q → (q ≡ code_of l) ⊎ Contains s.keys q
  kept q c =
      let P : ℕ → Type 0 = λ q. (q ≡ code_of l) ⊎ Contains s.keys q in
      let all = All-insert_key nat_cmp (code_of l) P s.keys (All-from_contains P s.keys (λ q c. inr c)) (inl refl) in
      All-contains P n.keys q (subst (All P) (sym keys) all) c

  opposite : (m : Literal) → Contains (xs ++ l ∷ []) m → Contains (xs ++ l ∷ []) (negated m) → ⊥
  opposite m c d = by_cases (Contains-push_cases xs l m c) (Contains-push_cases xs l (negated m) d)
    where
      gone : Contains xs (negated l) → ⊥
      gone k = free (h.has (negated l) k)

      by_cases : (Contains xs m ⊎ (l ≡ m)) → (Contains xs (negated m) ⊎ (l ≡ negated m)) → ⊥
      by_cases (inl a) (inl b) = All-contains (λ m. Contains xs (negated m) → ⊥) xs m h.apart a b
      by_cases (inl a) (inr b) = gone (subst (Contains xs) (sym (negated-negated m) ∙ ap negated (sym b)) a)
      by_cases (inr a) (inl b) = gone (subst (λ x. Contains xs (negated x)) (sym a) b)
      by_cases (inr a) (inr b) = negated-other m (sym b ∙ a)

  pub Coded-more : ((q : ℕ) → Contains s.keys q → Contains n.keys q) → Coded n (xs ++ l ∷ [])
  Coded-more grown = record {
    has = λ m c. elim (Contains-push_cases xs l m c) [ inl a ↦ grown (code_of m) (h.has m a) | inr e ↦ subst (λ x. Contains n.keys (code_of x)) e added ];
    only = λ m c. elim (kept (code_of m) c) [
      | inl e ↦ subst (Contains (xs ++ l ∷ [])) (sym (same_code m l e)) (Contains-push xs l)
      | inr a ↦ Contains-append_left xs (l ∷ []) m (h.only m a)
    ];
    apart = All-from_contains (λ m. Contains (xs ++ l ∷ []) (negated m) → ⊥) (xs ++ l ∷ []) opposite;
  }

in_set : (s : BTreeSet ℕ) (k : ℕ) → contains nat_cmp s k ≡ true → Contains s.keys k
in_set s k e = (btree_set_contains_iff nat_cmp_total exact_unsigned s k).0 e

is_in : (s : BTreeSet ℕ) (k : ℕ) → Contains s.keys k → contains nat_cmp s k ≡ true
is_in s k c = (btree_set_contains_iff nat_cmp_total exact_unsigned s k).1 c

pub one_more : (s n : BTreeSet ℕ) (xs : List Literal) (l : Literal) → Coded s xs → contains nat_cmp s (code_of (negated l)) ≡ false → Updates nat_cmp s n (code_of l) true
    → n.keys ≡ insert_key nat_cmp s.keys (code_of l) → Coded n (xs ++ l ∷ [])
one_more s n xs l h free u keys =
    Coded-more s n xs l h (λ c. true≢false (sym (is_in s _ c) ∙ free)) keys (in_set n (code_of l) u.1)
    (λ q c. in_set n q (u.0 q ∙ still (is_at (nat_cmp (code_of l)) q) (contains nat_cmp s q) (is_in s q c)))
  where
    still : (b x : Bool) → x ≡ true → cond b true x ≡ true
    still true x e = refl
    still false x e = e

pub both_signs : (s : BTreeSet ℕ) (i : ℕ) (clause : List Literal) (l : Literal) → Coded s (take i clause) → Contains clause l → contains nat_cmp s (code_of (negated l)) ≡ true → HasBothSigns clause
both_signs s i clause l h c e =
    let d = h.only (negated l) (in_set s _ e) in
    (l, (c, subst (λ x. Contains x (negated l)) (take-append-drop i clause) (Contains-append_left (take i clause) (drop i clause) (negated l) d)))
