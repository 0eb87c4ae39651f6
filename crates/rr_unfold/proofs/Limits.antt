-- What a limit on tokens changes: a count that passes it is refused, and nothing else.
use Rattle.std.proofs.Common.{◌≡◌, ◌∙◌, sym, ap, subst, ℕ, zero, suc, ◌+◌, Bool, true, false, if◌then◌else◌, nat_lt, List, [], Option, None, Some, Result, Ok, Err, ◌⊎◌, inl, inr, refl}
use Rattle.rr_syntax.specs.Tree.{LoopHead, Statement, Statements, Arm, Arms, Null, Block, If, IfElse, Case, Assign, For, Done, Then, CaseItem, NoArms, MoreArms}
use Rattle.rr_expr.specs.Scopes.{Names}
use Rattle.rr_flat.specs.declared.fault.FlatFault.{FlatFault}
use Rattle.rr_flat.specs.declared.fault.FlatFault.TheVariants.{TooMany}
use Rattle.rr_flat.specs.declared.fault.Limit.TheVariants.{Turns, Unfolded}
use Rattle.rr_flat.specs.Faults.{and_then}
use Rattle.rr_loop_names.specs.Turns.{Turn}
use Rattle.rr_loop_rules.specs.Rules.{LoopNames}
use Rattle.rr_unfold.specs.Laws.{uncounted, CountedUnlimited, FaultUnlimited}
use Rattle.rr_unfold.specs.Unfold.{Count, with_tokens, with_turn, inside, one_more, opening, following, tokens_of, turn_then, turns_from, counted, counted_all, counted_arm, counted_arms}

-- the same count but for tokens, or the same fault, or the fault that a limit is passed
Within : Result Count FlatFault → Result Count FlatFault → Type 0
Within r u = (((c : Count) × ((r ≡ Ok c) × (u ≡ Ok (uncounted c)))) ⊎ ((f : FlatFault) × ((r ≡ Err f) × (u ≡ Err f)))) ⊎ ((k : ℕ) × (r ≡ Err (TooMany Unfolded k)))

within_ok : (c : Count) → Within (Ok c) (Ok (uncounted c))
unfolding Within
within_ok c = inl (inl (c, (refl, refl)))

turns_passed : Within (Err (TooMany Turns 65537)) (Err (TooMany Turns 65537))
unfolding Within
turns_passed = inl (inr (TooMany Turns 65537, (refl, refl)))

-- a step behind the same answer
within_same : {A : Type 0} (r : Result A FlatFault) (f g : A → Result Count FlatFault) → ((a : A) → Within (f a) (g a)) → Within (and_then r f) (and_then r g)
unfolding Within
within_same (Ok a) f g h = h a
within_same (Err e) f g h = inl (inr (e, (refl, refl)))

-- and behind counts that are within
within_then : (r u : Result Count FlatFault) (f g : Count → Result Count FlatFault) → Within r u → ((c : Count) → Within (f c) (g (uncounted c))) → Within (and_then r f) (and_then u g)
unfolding Within
within_then r u f g (inl (inl p)) h = rw (p.1.0, p.1.1) (h p.0)
within_then r u f g (inl (inr p)) h = rw (p.1.0, p.1.1) (inl (inr (p.0, (refl, refl))))
within_then r u f g (inr p) h = rw p.1 (inr (p.0, refl))

passed : (full past : Bool) (tokens : ℕ) (c : Count)
    → Within (if full then Err (TooMany Turns 65537) else if past then Err (TooMany Unfolded tokens) else Ok (with_turn tokens c)) (if full then Err (TooMany Turns 65537) else Ok (with_turn 0 (uncounted c)))
unfolding Within
passed true past tokens c = inl (inr (TooMany Turns 65537, (refl, refl)))
passed false true tokens c = inr (tokens, refl)
passed false false tokens c = inl (inl (with_turn tokens c, (refl, refl)))

more_within : (limit : Option ℕ) (m : ℕ) (c : Count) → Within (one_more limit m c) (one_more None m (uncounted c))
more_within None m c = passed (nat_lt 65535 c.turns) false c.tokens c
more_within (Some n) m c = passed (nat_lt 65535 c.turns) (nat_lt n (with_tokens c.tokens m)) (with_tokens c.tokens m) c

module _ (limit : Option ℕ) (s : Names) (turn : Turn) (h : LoopHead) (m : ℕ) (body free : Turn → Count → Result Count FlatFault) (alike : (t : Turn) (c : Count) → Within (body t c) (free t (uncounted c))) where
  then_within : (v : ℕ) (more others : ℕ → Count → Result Count FlatFault) → ((w : ℕ) (c : Count) → Within (more w c) (others w (uncounted c))) → (c : Count) (o : Option ℕ)
      → Within (turn_then limit m (body (inside h turn v)) more c o) (turn_then None m (free (inside h turn v)) others (uncounted c) o)
  then_within v more others k c None = within_ok c
  then_within v more others k c (Some next) =
      within_then (and_then (one_more limit m c) (body (inside h turn v))) (and_then (one_more None m (uncounted c)) (free (inside h turn v))) (more next) (others next)
      (within_then (one_more limit m c) (one_more None m (uncounted c)) (body (inside h turn v)) (free (inside h turn v)) (more_within limit m c) (alike (inside h turn v))) (k next)

  turns_within : (left v : ℕ) (c : Count) → Within (turns_from left limit s turn h m body v c) (turns_from left None s turn h m free v (uncounted c))
  unfolding turns_from
  turns_within zero v c = turns_passed
  turns_within (suc left) v c =
      within_same (following s (inside h turn v) h) (turn_then limit m (body (inside h turn v)) (turns_from left limit s turn h m body) c) (turn_then None m (free (inside h turn v)) (turns_from left None s turn h m free) (uncounted c))
      (then_within v (turns_from left limit s turn h m body) (turns_from left None s turn h m free) (turns_within left) c)

mutual
  unfolding counted

  within : (limit : Option ℕ) (L : LoopNames) (s : Names) (turn : Turn) (t : Statement) (c : Count) → Within (counted limit L s turn t c) (counted None L s turn t (uncounted c))
  within limit L s turn Null c = within_ok c
  within limit L s turn (Block label ts) c = all_within limit L s turn ts c
  within limit L s turn (If test t) c = within limit L s turn t c
  within limit L s turn (IfElse test t u) c =
      within_then (counted limit L s turn t c) (counted None L s turn t (uncounted c)) (counted limit L s turn u) (counted None L s turn u) (within limit L s turn t c) (λ d. within limit L s turn u d)
  within limit L s turn (Case kind on arms) c = arms_within limit L s turn arms c
  within limit L s turn (Assign t now e) c = within_ok c
  within limit L s turn (For h t) c =
      within_same (opening L s turn h)
      (λ v. turns_from 65537 limit s turn h (tokens_of t) (λ i d. counted limit L s i t d) v c) (λ v. turns_from 65537 None s turn h (tokens_of t) (λ i d. counted None L s i t d) v (uncounted c))
      (λ v. turns_within limit s turn h (tokens_of t) (λ i d. counted limit L s i t d) (λ i d. counted None L s i t d) (λ i d. within limit L s i t d) 65537 v c)

  all_within : (limit : Option ℕ) (L : LoopNames) (s : Names) (turn : Turn) (ts : Statements) (c : Count) → Within (counted_all limit L s turn ts c) (counted_all None L s turn ts (uncounted c))
  all_within limit L s turn Done c = within_ok c
  all_within limit L s turn (Then t ts) c =
      within_then (counted limit L s turn t c) (counted None L s turn t (uncounted c)) (counted_all limit L s turn ts) (counted_all None L s turn ts) (within limit L s turn t c) (λ d. all_within limit L s turn ts d)

  arm_within : (limit : Option ℕ) (L : LoopNames) (s : Names) (turn : Turn) (a : Arm) (c : Count) → Within (counted_arm limit L s turn a c) (counted_arm None L s turn a (uncounted c))
  arm_within limit L s turn (CaseItem labels colon t) c = within limit L s turn t c

  arms_within : (limit : Option ℕ) (L : LoopNames) (s : Names) (turn : Turn) (arms : Arms) (c : Count) → Within (counted_arms limit L s turn arms c) (counted_arms None L s turn arms (uncounted c))
  arms_within limit L s turn NoArms c = within_ok c
  arms_within limit L s turn (MoreArms a rest) c =
      within_then (counted_arm limit L s turn a c) (counted_arm None L s turn a (uncounted c)) (counted_arms limit L s turn rest) (counted_arms None L s turn rest) (arm_within limit L s turn a c) (λ d. arms_within limit L s turn rest d)

fine : (r u : Result Count FlatFault) (a : Count) → Within r u → r ≡ Ok a → u ≡ Ok (uncounted a)
unfolding Within
fine r u a (inl (inl p)) h = let k : p.0 ≡ a = (let e : Ok p.0 ≡ Ok a = sym p.1.0 ∙ h in cc) in p.1.1 ∙ ap (λ (c : Count). Ok (uncounted c)) k
fine r u a (inl (inr p)) h = let k : Err p.0 ≡ Ok a = sym p.1.0 ∙ h in absurd (cc)
fine r u a (inr p) h = let k : Err (TooMany Unfolded p.0) ≡ Ok a = sym p.1 ∙ h in absurd (cc)

bad : (r u : Result Count FlatFault) (f : FlatFault) → ((k : ℕ) → f ≡ TooMany Unfolded k → ⊥) → Within r u → r ≡ Err f → u ≡ Err f
unfolding Within
bad r u f other (inl (inl p)) h = let k : Ok p.0 ≡ Err f = sym p.1.0 ∙ h in absurd (cc)
bad r u f other (inl (inr p)) h = p.1.1 ∙ (sym p.1.0 ∙ h)
bad r u f other (inr p) h = let k : Err f ≡ Err (TooMany Unfolded p.0) = sym h ∙ p.1 in absurd (other p.0 (cc))

pub counted_unlimited : CountedUnlimited
counted_unlimited limit L s t c d h = fine (counted limit L s [] t c) (counted None L s [] t (uncounted c)) d (within limit L s [] t c) h

pub fault_unlimited : FaultUnlimited
fault_unlimited limit L s t c f other h = bad (counted limit L s [] t c) (counted None L s [] t (uncounted c)) f other (within limit L s [] t c) h

pub ruleset limits = (counted_unlimited, fault_unlimited)
