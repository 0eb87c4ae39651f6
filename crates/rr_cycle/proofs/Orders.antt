-- Steps in an order: performing them settles an environment.
use Rattle.std.proofs.Common.{◌≡◌, ℕ, zero, suc, ◌≤◌, ◌<◌, refl, ◌∙◌, sym, arith, Bool, ◌⊎◌, inl, inr}
use Rattle.std.proofs.lemmas.Bool.{cases_eq}

module _ {S B : Type 0} (act : S → (B → Bool) → B → Bool) (Writes : S → B → Type 0) (Names : S → B → Type 0) (step : ℕ → S) (n : ℕ) where
  -- n steps, of which each writes only its own bits and computes them from what it names
  pub record Steps : Type 0 where
    pub decided : (i : ℕ) → i < n → (b : B) → Writes (step i) b ⊎ (Writes (step i) b → ⊥)
    pub outside : (i : ℕ) → i < n → (e : B → Bool) (b : B) → (Writes (step i) b → ⊥) → act (step i) e b ≡ e b
    pub local : (i : ℕ) → i < n → (e f : B → Bool) (b : B) → Writes (step i) b → ((c : B) → Names (step i) c → e c ≡ f c) → act (step i) e b ≡ act (step i) f b
    pub after : (i j : ℕ) → i < n → j < n → (b : B) → Writes (step i) b → Names (step j) b → i < j
    pub apart : (i j : ℕ) → i < n → j < n → (b : B) → Writes (step i) b → Writes (step j) b → i ≡ j

  unfoldable pub performed : ℕ → (B → Bool) → B → Bool
  performed zero e = e
  performed (suc i) e = act (step i) (performed i e)

  -- a step leaves this environment as it is
  abbrev pub Keeps : S → (B → Bool) → Type 0
  Keeps s e = (b : B) → act s e b ≡ e b

  pub untouched : Steps → (e : B → Bool) (b : B) (i : ℕ) → i ≤ n → ((j : ℕ) → j < i → Writes (step j) b → ⊥) → performed i e b ≡ e b
  unfolding performed
  untouched h e b zero l w = refl
  untouched h e b (suc i) l w = h.outside i l (performed i e) b (w i (omega arith)) ∙ untouched h e b i (omega arith) (λ j m. w j (omega arith))

  -- a step that was performed keeps what a later one makes
  stays : Steps → (e : B → Bool) (i j : ℕ) → i < n → j < i → Keeps (step j) e → Keeps (step j) (act (step i) e)
  stays h e i j li lj k b = elim (h.decided j (omega arith) b) [
    | inl w ↦
        let same : (c : B) → Names (step j) c → act (step i) e c ≡ e c = λ c m. h.outside i li e c (λ v. absurd (omega (arith, h.after i j li (omega arith) c v m))) in
        let mine : act (step i) e b ≡ e b = h.outside i li e b (λ v. absurd (omega (arith, h.apart i j li (omega arith) b v w))) in
        h.local j (omega arith) (act (step i) e) e b w same ∙ k b ∙ sym mine
    | inr w ↦ h.outside j (omega arith) (act (step i) e) b w
  ]

  again : Steps → (e : B → Bool) (i : ℕ) → i < n → Keeps (step i) (act (step i) e)
  again h e i l b = elim (h.decided i l b) [
    | inl w ↦ h.local i l (act (step i) e) e b w (λ c m. h.outside i l e c (λ v. absurd (omega (arith, h.after i i l l c v m))))
    | inr w ↦ h.outside i l (act (step i) e) b w
  ]

  pub settles : Steps → (e : B → Bool) (i j : ℕ) → i ≤ n → j < i → Keeps (step j) (performed i e)
  unfolding performed
  settles h e zero j l m = absurd (omega arith)
  settles h e (suc i) j l m = elim (cases_eq j i) [
    | inl q ↦ rw q (again h (performed i e) i l)
    | inr q ↦ stays h (performed i e) i j l (omega arith) (settles h e i j (omega arith) (omega arith))
  ]
