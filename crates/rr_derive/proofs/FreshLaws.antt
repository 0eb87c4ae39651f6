-- no two fresh lines have the same decisions
use Rattle.std.specs.Prelude.{◌≡◌, ℕ, ◌≤◌, ◌⊎◌, Bool, true, false, List, [], ◌∷◌, get_or, All, Contains, refl}
use Rattle.std.proofs.Common.{inl, inr, sym, ◌∙◌, ap, subst}
use Rattle.std.proofs.Math.Bool.{not-not}
use Rattle.std.proofs.lemmas.List.Elements.{All-weaker, Contains-get_or}
use Rattle.std.proofs.lemmas.Bool.{cases_eq, true≢false, false≢true}
use Rattle.rr_cnf.specs.Clauses.{Literal, negated}
use Rattle.rr_derive.specs.Fresh.{Entry}
use Rattle.rr_derive.proofs.Trails.{Holds, Decided, IsOpen, OthersFalse, IsTrail, IsQuiet, Rejects}

pub negated-negated : (l : Literal) → negated (negated l) ≡ l
negated-negated l = ap (λ b. record { var = l.var; negative = b }) (not-not l.negative)

All-from_contains : {X : Type 0} (P : X → Type 0) (xs : List X) → ((x : X) → Contains xs x → P x) → All P xs
All-from_contains P xs f = λ k d h. f (get_or xs k d) (Contains-get_or xs k d h)

-- two literals are equal or not
pub same_or_not : (a b : Literal) → (a ≡ b) ⊎ (a ≡ b → ⊥)
same_or_not a b = by_var (cases_eq a.var b.var)
  where
    signs : (x y : Bool) → (x ≡ y) ⊎ (x ≡ y → ⊥)
    signs true true = inl refl
    signs true false = inr true≢false
    signs false true = inr false≢true
    signs false false = inl refl

    by_sign : a.var ≡ b.var → ((a.negative ≡ b.negative) ⊎ (a.negative ≡ b.negative → ⊥)) → (a ≡ b) ⊎ (a ≡ b → ⊥)
    by_sign v (inl s) = inl (ap (λ x. record { var = x; negative = a.negative }) v ∙ ap (λ x. record { var = b.var; negative = x }) s)
    by_sign v (inr s) = inr (λ e. s (ap (λ x. x.negative) e))

    by_var : ((a.var ≡ b.var) ⊎ (a.var ≡ b.var → ⊥)) → (a ≡ b) ⊎ (a ≡ b → ⊥)
    by_var (inl v) = by_sign v (signs a.negative b.negative)
    by_var (inr v) = inr (λ e. v (ap (λ x. x.var) e))

holds_or_not : (t : List Entry) (l : Literal) → Holds t l ⊎ (Holds t l → ⊥)
holds_or_not [] l = inr (λ h. h)
holds_or_not (e ∷ t) l = by_cases (same_or_not e.lit l) (holds_or_not t l)
  where
    by_cases : ((e.lit ≡ l) ⊎ (e.lit ≡ l → ⊥)) → (Holds t l ⊎ (Holds t l → ⊥)) → Holds (e ∷ t) l ⊎ (Holds (e ∷ t) l → ⊥)
    by_cases (inl q) r = inl (inl q)
    by_cases (inr q) (inl r) = inl (inr r)
    by_cases (inr q) (inr r) = inr (λ h. elim h [ inl x ↦ q x | inr x ↦ r x ])

-- a quiet trail with the same decisions has all that an earlier trail has
module _ (hand more : List (List Literal)) (grown : (c : List Literal) → Contains hand c → Contains more c) (inputs : ℕ) (t' : List Entry) (quiet : IsQuiet more t') where
  forced : (before : List Entry) (c : List Literal) (l : Literal) → ((m : Literal) → Holds before m → Holds t' m) → Contains hand c → Contains c l → OthersFalse before c l → Holds t' l
  forced before c l up h k o = by_cases (holds_or_not t' l) (holds_or_not t' (negated l))
    where
      others : OthersFalse t' c l
      others = All-weaker (λ m. (m ≡ l) ⊎ Holds before (negated m)) (λ m. (m ≡ l) ⊎ Holds t' (negated m)) (λ m w. elim w [ inl e ↦ inl e | inr f ↦ inr (up (negated m) f) ]) c o

      by_cases : (Holds t' l ⊎ (Holds t' l → ⊥)) → (Holds t' (negated l) ⊎ (Holds t' (negated l) → ⊥)) → Holds t' l
      by_cases (inl y) z = y
      by_cases (inr y) (inl z) =
          absurd (quiet.not_false c (grown c h) (All-weaker (λ m. (m ≡ l) ⊎ Holds t' (negated m)) (λ m. Holds t' (negated m)) (λ m w. elim w [ inl e ↦ subst (λ x. Holds t' (negated x)) (sym e) z | inr f ↦ f ]) c others))
      by_cases (inr y) (inr z) = absurd (quiet.not_unit c l (grown c h) k (y, z) others)

  keeps_up : (t : List Entry) → IsTrail hand inputs t → ((l : Literal) → Decided t l → Holds t' l) → (l : Literal) → Holds t l → Holds t' l
  keeps_up [] tr same l h = absurd h
  keeps_up (e ∷ t) tr same l h = by_cases (keeps_up t tr.0 (λ m d. same m (inr d))) h tr.1.1
    where
      by_cases : ((m : Literal) → Holds t m → Holds t' m) → Holds (e ∷ t) l → (((e.decided ≡ true) × (1 ≤ e.lit.var) × (e.lit.var ≤ inputs)) ⊎ ((e.decided ≡ false) × ((c : List Literal) × (Contains hand c × Contains c e.lit × OthersFalse t c e.lit)))) → Holds t' l
      by_cases up (inr k) why = up l k
      by_cases up (inl q) (inl d) = same l (inl (q, d.0))
      by_cases up (inl q) (inr f) = let w = f.1 in subst (Holds t') q (forced t w.0 e.lit up w.1.0 w.1.1 w.1.2)

  -- so no later line rejects the same decision after the same decisions
  pub not_twice : (t : List Entry) (d : Literal) (clause later : List Literal) → Rejects hand inputs t d clause → Contains more clause → ((l : Literal) → Decided t l → Holds t' l) → IsOpen t' d → ⊥
  not_twice t d clause later r at same o =
      let up = keeps_up t r.trail same in
      quiet.not_unit clause (negated d) at r.negation (o.1, subst (λ x. Holds t' x → ⊥) (sym (negated-negated d)) o.0)
      (All-weaker (λ m. (m ≡ negated d) ⊎ Holds t (negated m)) (λ m. (m ≡ negated d) ⊎ Holds t' (negated m)) (λ m w. elim w [ inl e ↦ inl e | inr f ↦ inr (up (negated m) f) ]) clause r.others)
