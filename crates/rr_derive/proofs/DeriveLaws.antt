-- following the hints
use Rattle.std.proofs.Common.{◌≡◌, ◌⊎◌, ◌↔◌, inl, inr, ℕ, ◌<◌, Bool, true, false, List, [], ◌∷◌, ◌++◌, length, get_or, take, refl, sym, ◌∙◌, subst, arith}
use Rattle.std.specs.Prelude.{All, Contains, Some, None}
use Rattle.std.proofs.lemmas.List.Elements.{All-contains, All-weaker}
use Rattle.std.proofs.lemmas.Bool.{false≢true}
use Rattle.rr_cnf.specs.Clauses.{Literal, negated, IsWithin}
use Rattle.rr_derive.specs.Derive.{Step, Names, Passes, PassesAt, Leads}
use Rattle.rr_cnf.specs.Partial.{IsFalse, IsUnit}
use Rattle.std.proofs.lemmas.List.{get_or_default}
use Rattle.rr_derive.specs.declared.check.Seen.TheVariants.{Other}
use Rattle.rr_derive.specs.Marks.{SeenIs, MarkedTrue, MarkedFalse, Unmarked, OpenIn, Represents}
use Rattle.rr_derive.proofs.MarkLaws.{All-from_contains, marked_apart}

module _ (named : ℕ → List Literal → Type 0) (h : ℕ) (hs : List ℕ) (held : List Literal) where
  pub Leads-none : ((d : List Literal) → named h d → ⊥) → Leads named held (h ∷ hs) → ⊥
  Leads-none n s = n s.0 s.1.0

module _ (m : List ℕ) (s : ℕ) (held : List Literal) (r : Represents m s held) (c : List Literal) (within : All (λ l. l.var < length m) c) where
  at : (l : Literal) → Contains c l → l.var < length m
  at l k = All-contains (λ l. l.var < length m) c l within k

  pub IsFalse-from_marks : All (MarkedFalse m s) c → IsFalse held c
  IsFalse-from_marks f = All-from_contains (λ l. Contains held (negated l)) c (λ l k. r.holds (negated l) (at l k) (All-contains (MarkedFalse m s) c l f k))

  pub open_apart : (l : Literal) → Contains c l → Unmarked m s l → Contains held (negated l) → ⊥
  open_apart l k u h = u.1 (r.marked (negated l) (at l k) h)

  pub false_at : IsFalse held c → (l : Literal) → Contains c l → Contains held (negated l)
  false_at f l k = All-contains (λ l. Contains held (negated l)) c l f k

  -- an open literal is the one that is open
  pub open_is : (u l : Literal) → IsUnit held c u → Contains c l → Unmarked m s l → l ≡ u
  open_is u l i k o = by_cases (All-contains (λ n. (n ≡ u) ⊎ Contains held (negated n)) c l i.others k)
    where
      by_cases : ((l ≡ u) ⊎ Contains held (negated l)) → l ≡ u
      by_cases (inl e) = e
      by_cases (inr f) = absurd (open_apart l k o f)

  pub true_is_not_unit : (u l : Literal) → IsUnit held c u → Contains c l → MarkedTrue m s l → ⊥
  true_is_not_unit u l i k t = by_cases (All-contains (λ n. (n ≡ u) ⊎ Contains held (negated n)) c l i.others k)
    where
      by_cases : ((l ≡ u) ⊎ Contains held (negated l)) → ⊥
      by_cases (inl e) = i.not_true (subst (Contains held) e (r.holds l (at l k) t))
      by_cases (inr f) = marked_apart m s l t (r.marked (negated l) (at l k) f)

  pub IsUnit-from_marks : (u : Literal) → Contains c u → Unmarked m s u → All (λ n. (n ≡ u) ⊎ MarkedFalse m s n) c → IsUnit held c u
  IsUnit-from_marks u k o f = record {
    member = k;
    not_true = λ h. o.0 (r.marked u (at u k) h);
    not_false = open_apart u k o;
    others = All-from_contains (λ n. (n ≡ u) ⊎ Contains held (negated n)) c (λ l kl. by_cases l kl (All-contains (λ n. (n ≡ u) ⊎ MarkedFalse m s n) c l f kl));
  }
    where
      by_cases : (l : Literal) → Contains c l → ((l ≡ u) ⊎ MarkedFalse m s l) → (l ≡ u) ⊎ Contains held (negated l)
      by_cases l kl (inl e) = inl e
      by_cases l kl (inr g) = inr (r.holds (negated l) (at l kl) g)

  module _ (named : ℕ → List Literal → Type 0) (h : ℕ) (hs : List ℕ) (is : named h c) where
    pub Leads-conflict : OpenIn m s c None → Leads named held (h ∷ hs)
    Leads-conflict f = (c, (is, inl (IsFalse-from_marks f)))

  module _ (named : ℕ → List Literal → Type 0) (h : ℕ) (hs : List ℕ) (one : (d : List Literal) → named h d → d ≡ c) where
    pub Leads-true : (l : Literal) → Contains c l → MarkedTrue m s l → Leads named held (h ∷ hs) → ⊥
    Leads-true l k t lead = by_cases (subst (λ d. IsFalse held d ⊎ ((u : Literal) × (IsUnit held d u × Leads named (held ++ u ∷ []) hs))) (one lead.0 lead.1.0) lead.1.1)
      where
        by_cases : (IsFalse held c ⊎ ((u : Literal) × (IsUnit held c u × Leads named (held ++ u ∷ []) hs))) → ⊥
        by_cases (inl f) = marked_apart m s l t (r.marked (negated l) (at l k) (false_at f l k))
        by_cases (inr w) = true_is_not_unit w.0 l w.1.0 k t

    pub Leads-two : (l n : Literal) → Contains c l → Contains c n → Unmarked m s l → Unmarked m s n → (l ≡ n → ⊥) → Leads named held (h ∷ hs) → ⊥
    Leads-two l n kl kn ul un ne lead = by_cases (subst (λ d. IsFalse held d ⊎ ((u : Literal) × (IsUnit held d u × Leads named (held ++ u ∷ []) hs))) (one lead.0 lead.1.0) lead.1.1)
      where
        by_cases : (IsFalse held c ⊎ ((u : Literal) × (IsUnit held c u × Leads named (held ++ u ∷ []) hs))) → ⊥
        by_cases (inl f) = open_apart l kl ul (false_at f l kl)
        by_cases (inr w) = ne (open_is w.0 l w.1.0 kl ul ∙ sym (open_is w.0 n w.1.0 kn un))

    pub Leads-other : SeenIs m s c Other → Leads named held (h ∷ hs) → ⊥
    Leads-other seen lead = by_cases seen
      where
        by_cases : SeenIs m s c Other → ⊥
        by_cases (inl w) = Leads-true w.0 w.1.0 w.1.1 lead
        by_cases (inr w) = let t = w.1.1 in Leads-two w.0 w.1.0 t.0 t.1 t.2 t.3 t.4 lead

    pub Leads-unit_to : (l : Literal) → Contains c l → Unmarked m s l → Leads named held (h ∷ hs) → Leads named (held ++ l ∷ []) hs
    Leads-unit_to l k o lead = by_cases (subst (λ d. IsFalse held d ⊎ ((u : Literal) × (IsUnit held d u × Leads named (held ++ u ∷ []) hs))) (one lead.0 lead.1.0) lead.1.1)
      where
        by_cases : (IsFalse held c ⊎ ((u : Literal) × (IsUnit held c u × Leads named (held ++ u ∷ []) hs))) → Leads named (held ++ l ∷ []) hs
        by_cases (inl f) = absurd (open_apart l k o (false_at f l k))
        by_cases (inr w) = subst (λ u. Leads named (held ++ u ∷ []) hs) (sym (open_is w.0 l w.1.0 k o)) w.1.1

  module _ (named : ℕ → List Literal → Type 0) (h : ℕ) (hs : List ℕ) (is : named h c) where
    pub Leads-unit_from : (l : Literal) → OpenIn m s c (Some l) → Leads named (held ++ l ∷ []) hs → Leads named held (h ∷ hs)
    Leads-unit_from l o lead = (c, (is, inr (l, (IsUnit-from_marks l o.0 o.1 o.2, lead))))

pub within_marks : (c : List Literal) (v n : ℕ) → All (IsWithin v) c → v < n → All (λ l. l.var < n) c
within_marks c v n h e = All-weaker (IsWithin v) (λ l. l.var < n) (λ l w. omega arith) c h

-- what the marks so far say of the hints that are left
pub record Led (named : ℕ → List Literal → Type 0) (s : ℕ) (start now : List ℕ) (hints rest : List ℕ) : Type 0 where
  pub leads : (held : List Literal) → Represents start s held → (x : List Literal) × (Represents now s x × (Leads named x rest ↔ Leads named held hints))

pub Led-start : (named : ℕ → List Literal → Type 0) (s : ℕ) (m : List ℕ) (hints : List ℕ) → Led named s m m hints hints
Led-start named s m hints = record { leads = λ held r. (held, (r, (λ l. l, λ l. l))) }

module _ (named : ℕ → List Literal → Type 0) (s : ℕ) (start now : List ℕ) (hints rest : List ℕ) (led : Led named s start now hints rest) where
  pub Led-fails : ((x : List Literal) → Represents now s x → Leads named x rest → ⊥) → (held : List Literal) → Represents start s held → (false ≡ true) ↔ Leads named held hints
  Led-fails f held r =
      let w = led.leads held r in
      (λ e. absurd (false≢true e), λ l. absurd (f w.0 w.1.0 (w.1.1.1 l)))

  pub Led-closes : ((x : List Literal) → Represents now s x → Leads named x rest) → (held : List Literal) → Represents start s held → (true ≡ true) ↔ Leads named held hints
  Led-closes f held r =
      let w = led.leads held r in
      (λ e. w.1.1.0 (f w.0 w.1.0), λ l. refl)

  pub Led-next : (l : Literal) (marks : List ℕ) (more : List ℕ) → ((x : List Literal) → Represents now s x → Represents marks s (x ++ l ∷ []) × (Leads named (x ++ l ∷ []) more ↔ Leads named x rest)) → Led named s start marks hints more
  Led-next l marks more f = record {
    leads = λ held r.
        let w = led.leads held r in
        let g = f w.0 w.1.0 in
        (w.0 ++ l ∷ [], (g.0, (λ k. w.1.1.0 (g.1.0 k), λ k. g.1.1 (w.1.1.1 k))));
  }

pub PassesAt-iff : (cs : List (List Literal)) (lines : List Step) (k : ℕ) (s : Step) → k < length lines → s ≡ get_or lines k s → (b : Bool) → ((b ≡ true) ↔ Passes (Names cs (take k lines)) s.clause s.hints) → (b ≡ true) ↔ PassesAt cs lines k
PassesAt-iff cs lines k s h e b p = (λ t d. subst (λ x. Passes (Names cs (take k lines)) x.clause x.hints) (e ∙ get_or_default lines k s d h) (p.0 t), λ q. p.1 (subst (λ x. Passes (Names cs (take k lines)) x.clause x.hints) (sym e) (q s)))

-- a clause with a true literal, or with two open ones, is neither false nor unit
pub quiet_at : (m : List ℕ) (s : ℕ) (held : List Literal) → Represents m s held → (c : List Literal) → All (λ l. l.var < length m) c → SeenIs m s c Other → (IsFalse held c → ⊥) × ((u : Literal) → IsUnit held c u → ⊥)
quiet_at m s held r c within (inl w) =
    (λ f. marked_apart m s w.0 w.1.1 (r.marked (negated w.0) (at m s held r c within w.0 w.1.0) (false_at m s held r c within f w.0 w.1.0)), λ u i. true_is_not_unit m s held r c within u w.0 i w.1.0 w.1.1)
quiet_at m s held r c within (inr w) =
    let t = w.1.1 in
    (λ f. open_apart m s held r c within w.0 t.0 t.2 (false_at m s held r c within f w.0 t.0), λ u i. t.4 (open_is m s held r c within u w.0 i t.0 t.2 ∙ sym (open_is m s held r c within u w.1.0 i t.1 t.3)))
