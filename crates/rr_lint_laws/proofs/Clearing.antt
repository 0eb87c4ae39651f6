-- A block that clears the variables of which it kept a bit keeps none.
use Rattle.std.proofs.Common.{◌≡◌, ◌∙◌, sym, ap, subst, inl, inr, Bool, true, false, not, ◌&&◌, ◌||◌, ℕ, List, [], ◌∷◌, refl}
use Rattle.std.specs.List.{AllByRecursion, list_any}
use Rattle.std.proofs.lemmas.Bool.{both_ways, true_from_ne_false}
use Rattle.std.proofs.Math.Bool.{or-false, or_assoc}
use Rattle.rr_syntax.specs.Tree.{Name, Statement, Statements, Arm, Arms, Null, Block as Sequence, If, IfElse, Case, Assign, For, Done, Then, CaseItem, NoArms, MoreArms}
use Rattle.rr_expr.specs.declared.types.Bit.{Bit}
use Rattle.rr_expr.specs.Reading.{NamesBit, NamesBits}
use Rattle.rr_expr.specs.Scopes.{Names, meant}
use Rattle.rr_flat.specs.Latches.{has_default, known, known_all, known_arm, known_arms, kept, NoLatch, ReadsKnown, AllReadKnown, ArmReadsKnown, ArmsReadKnown}
use Rattle.rr_flat.specs.Reads.{TargetReads, writes, write_any}
use Rattle.rr_flat.specs.Targets.{assigns_target, is_bit_of, is_memory, may_write, must_write, target_bits, target_parts, writes_target}
use Rattle.rr_instance.specs.Instances.{fresh}
use Rattle.rr_latch.specs.Unassigned.{ReadEarly, AnyReadEarly, ArmReadEarly, ArmsReadEarly, KeepsBit}
use Rattle.rr_latch.proofs.Knowing.{early_unknown, keeps_early, known_kept}
use Rattle.rr_named_bits.proofs.Runs.{whole_has}
use Rattle.rr_lint_laws.specs.Mended.{all_cleared, cleared, with_defaults}

-- whether a bit is assigned, and whether it is read early, does not depend on other bits

mutual
  unfolding known

  known_alone : (s : Names) (f g : Bit → Bool) (t : Statement) (b : Bit) → f b ≡ g b → known s f t b ≡ known s g t b
  known_alone s f g Null b h = h
  known_alone s f g (Sequence label ts) b h = all_known_alone s f g ts b h
  known_alone s f g (If c t) b h = λ k. known_alone s f g t b h k && h k
  known_alone s f g (IfElse c t u) b h = λ k. known_alone s f g t b h k && known_alone s f g u b h k
  known_alone s f g (Case kind on arms) b h = λ k. arms_known_alone s f g arms b h k && (has_default arms || h k)
  known_alone s f g (Assign t true e) b h = λ k. h k || assigns_target s t b
  known_alone s f g (Assign t false e) b h = h
  known_alone s f g (For head t) b h = h

  all_known_alone : (s : Names) (f g : Bit → Bool) (ts : Statements) (b : Bit) → f b ≡ g b → known_all s f ts b ≡ known_all s g ts b
  all_known_alone s f g Done b h = h
  all_known_alone s f g (Then t ts) b h = all_known_alone s (known s f t) (known s g t) ts b (known_alone s f g t b h)

  arm_known_alone : (s : Names) (f g : Bit → Bool) (a : Arm) (b : Bit) → f b ≡ g b → known_arm s f a b ≡ known_arm s g a b
  arm_known_alone s f g (CaseItem labels colon t) b h = known_alone s f g t b h

  arms_known_alone : (s : Names) (f g : Bit → Bool) (arms : Arms) (b : Bit) → f b ≡ g b → known_arms s f arms b ≡ known_arms s g arms b
  arms_known_alone s f g NoArms b h = refl
  arms_known_alone s f g (MoreArms a rest) b h = λ k. arm_known_alone s f g a b h k && arms_known_alone s f g rest b h k

mutual
  unfolding ReadEarly

  early_alone : (s : Names) (f g : Bit → Bool) (t : Statement) (b : Bit) → f b ≡ g b → ReadEarly s f t b → ReadEarly s g t b
  early_alone s f g Null b h r = r
  early_alone s f g (Sequence label ts) b h r = any_early_alone s f g ts b h r
  early_alone s f g (If c t) b h (inl r) = inl (r.0, sym h ∙ r.1)
  early_alone s f g (If c t) b h (inr r) = inr (early_alone s f g t b h r)
  early_alone s f g (IfElse c t u) b h (inl r) = inl (r.0, sym h ∙ r.1)
  early_alone s f g (IfElse c t u) b h (inr (inl r)) = inr (inl (early_alone s f g t b h r))
  early_alone s f g (IfElse c t u) b h (inr (inr r)) = inr (inr (early_alone s f g u b h r))
  early_alone s f g (Case kind on arms) b h (inl r) = inl (r.0, sym h ∙ r.1)
  early_alone s f g (Case kind on arms) b h (inr r) = inr (arms_early_alone s f g arms b h r)
  early_alone s f g (Assign t now e) b h (inl r) = inl (r.0, sym h ∙ r.1)
  early_alone s f g (Assign t now e) b h (inr r) = inr (r.0, sym h ∙ r.1)
  early_alone s f g (For head t) b h r = r

  any_early_alone : (s : Names) (f g : Bit → Bool) (ts : Statements) (b : Bit) → f b ≡ g b → AnyReadEarly s f ts b → AnyReadEarly s g ts b
  any_early_alone s f g Done b h r = r
  any_early_alone s f g (Then t ts) b h (inl r) = inl (early_alone s f g t b h r)
  any_early_alone s f g (Then t ts) b h (inr r) = inr (any_early_alone s (known s f t) (known s g t) ts b (known_alone s f g t b h) r)

  arm_early_alone : (s : Names) (f g : Bit → Bool) (a : Arm) (b : Bit) → f b ≡ g b → ArmReadEarly s f a b → ArmReadEarly s g a b
  arm_early_alone s f g (CaseItem labels colon t) b h (inl r) = inl (r.0, sym h ∙ r.1)
  arm_early_alone s f g (CaseItem labels colon t) b h (inr r) = inr (early_alone s f g t b h r)

  arms_early_alone : (s : Names) (f g : Bit → Bool) (arms : Arms) (b : Bit) → f b ≡ g b → ArmsReadEarly s f arms b → ArmsReadEarly s g arms b
  arms_early_alone s f g NoArms b h r = r
  arms_early_alone s f g (MoreArms a rest) b h (inl r) = inl (arm_early_alone s f g a b h r)
  arms_early_alone s f g (MoreArms a rest) b h (inr r) = inr (arms_early_alone s f g rest b h r)

-- where no bit is read early only assigned bits are read

assigned : (R : Bit → Type 0) (f : Bit → Bool) → ((b : Bit) → R b × (f b ≡ false) → ⊥) → (b : Bit) → R b → f b ≡ true
assigned R f h b r = true_from_ne_false (f b) (λ q. h b (r, q))

mutual
  unfolding ReadsKnown ReadEarly

  reads_known : (s : Names) (f : Bit → Bool) (t : Statement) → ((b : Bit) → ReadEarly s f t b → ⊥) → ReadsKnown s f t
  reads_known s f Null h = tt
  reads_known s f (Sequence label ts) h = all_read_known s f ts h
  reads_known s f (If c t) h = (assigned (NamesBit s c) f (λ b r. h b (inl r)), reads_known s f t (λ b r. h b (inr r)))
  reads_known s f (IfElse c t u) h =
      (assigned (NamesBit s c) f (λ b r. h b (inl r)), (reads_known s f t (λ b r. h b (inr (inl r))), reads_known s f u (λ b r. h b (inr (inr r)))))
  reads_known s f (Case kind on arms) h = (assigned (NamesBit s on) f (λ b r. h b (inl r)), arms_read_known s f arms (λ b r. h b (inr r)))
  reads_known s f (Assign t now e) h = (assigned (TargetReads s t) f (λ b r. h b (inl r)), assigned (NamesBit s e) f (λ b r. h b (inr r)))
  reads_known s f (For head t) h = tt

  all_read_known : (s : Names) (f : Bit → Bool) (ts : Statements) → ((b : Bit) → AnyReadEarly s f ts b → ⊥) → AllReadKnown s f ts
  all_read_known s f Done h = tt
  all_read_known s f (Then t ts) h = (reads_known s f t (λ b r. h b (inl r)), all_read_known s (known s f t) ts (λ b r. h b (inr r)))

  arm_reads_known : (s : Names) (f : Bit → Bool) (a : Arm) → ((b : Bit) → ArmReadEarly s f a b → ⊥) → ArmReadsKnown s f a
  arm_reads_known s f (CaseItem labels colon t) h = (assigned (NamesBits s labels) f (λ b r. h b (inl r)), reads_known s f t (λ b r. h b (inr r)))

  arms_read_known : (s : Names) (f : Bit → Bool) (arms : Arms) → ((b : Bit) → ArmsReadEarly s f arms b → ⊥) → ArmsReadKnown s f arms
  arms_read_known s f NoArms h = tt
  arms_read_known s f (MoreArms a rest) h = (arm_reads_known s f a (λ b r. h b (inl r)), arms_read_known s f rest (λ b r. h b (inr r)))

-- the bits of names that are cleared

module _ (s : Names) where
  -- a bit of one of the names
  abbrev pub is_of_any : List (List ℕ) → Bit → Bool
  is_of_any names b = list_any (λ name. is_bit_of (meant s name) b) names

  -- the name of no memory, which stands for its bits where it has no index
  abbrev pub IsWhole : List ℕ → Type 0
  IsWhole name = is_memory (meant s name) ≡ false

  assigns_name : (name : List ℕ) (b : Bit) → IsWhole name → assigns_target s (Name fresh name) b ≡ is_bit_of (meant s name) b
  unfolding must_write target_parts target_bits
  assigns_name name b w = or-false _ ∙ whole_has (meant s name) b w

  writes_name : (name : List ℕ) (b : Bit) → IsWhole name → writes_target s (Name fresh name) b ≡ is_bit_of (meant s name) b
  unfolding may_write target_parts target_bits
  writes_name name b w = or-false _ ∙ whole_has (meant s name) b w

  -- what is assigned after a list of them
  abbrev after : (Bit → Bool) → List (List ℕ) → Bit → Bool
  after f names b = f b || is_of_any names b

  one_more : (f : Bit → Bool) (name : List ℕ) (names : List (List ℕ)) (b : Bit) → IsWhole name → after (known s f (cleared name)) names b ≡ after f (name ∷ names) b
  unfolding known
  one_more f name names b w =
      ap (λ z. (f b || z) || is_of_any names b) (assigns_name name b w) ∙ or_assoc (f b) (is_bit_of (meant s name) b) (is_of_any names b)

  known_after : (f : Bit → Bool) (names : List (List ℕ)) (t : Statement) (b : Bit) → AllByRecursion IsWhole names → known_all s f (all_cleared names t) b ≡ known s (after f names) t b
  unfolding known all_cleared
  known_after f [] t b a = known_alone s f (after f []) t b (sym (or-false (f b)))
  known_after f (name ∷ names) t b a =
      known_after (known s f (cleared name)) names t b a.1 ∙ known_alone s (after (known s f (cleared name)) names) (after f (name ∷ names)) t b (one_more f name names b a.0)

  reads_after : (f : Bit → Bool) (names : List (List ℕ)) (t : Statement) → AllByRecursion IsWhole names → ReadsKnown s (after f names) t → AllReadKnown s f (all_cleared names t)
  unfolding ReadsKnown all_cleared TargetReads NamesBit
  reads_after f [] t a r = (subst (λ (g : Bit → Bool). ReadsKnown s g t) (λ k b. or-false (f b) k) r, tt)
  reads_after f (name ∷ names) t a r =
      (((λ b x. absurd x), (λ b x. absurd x)), reads_after (known s f (cleared name)) names t a.1 (subst (λ (g : Bit → Bool). ReadsKnown s g t) (λ k b. sym (one_more f name names b a.0) k) r))

  writes_after : (names : List (List ℕ)) (t : Statement) (b : Bit) → AllByRecursion IsWhole names → write_any true s (all_cleared names t) b ≡ (is_of_any names b || writes true s t b)
  unfolding writes all_cleared
  writes_after [] t b a = or-false (writes true s t b)
  writes_after (name ∷ names) t b a =
      (λ k. writes_name name b a.0 k || writes_after names t b a.1 k) ∙ sym (or_assoc (is_bit_of (meant s name) b) (is_of_any names b) (writes true s t b))

-- a bit that counts as not assigned behind the names is none of theirs, and counts so without them too
record Left (named written : Bool) : Type 0 where
  other : named ≡ false
  is : written ≡ true

left : (named written : Bool) → (not (named || written) || named) ≡ false → Left named written
left true written e = absurd (cc)
left false true e = record { other = refl; is = refl }
left false false e = absurd (cc)

module _ (s : Names) (t : Statement) (names : List (List ℕ)) (whole : AllByRecursion (IsWhole s) names) (covered : (b : Bit) → KeepsBit s t b → is_of_any s names b ≡ true) where
  -- the bits that count as assigned before the names, and behind them
  abbrev before : Bit → Bool
  before b = not (write_any true s (all_cleared names t) b)

  abbrev behind : Bit → Bool
  behind b = after s before names b

  left_bit : (b : Bit) → behind b ≡ false → Left (is_of_any s names b) (writes true s t b)
  left_bit b e = left (is_of_any s names b) (writes true s t b) ((λ k. not (sym (writes_after s names t b whole) k) || is_of_any s names b) ∙ e)

  same_start : (b : Bit) → behind b ≡ false → behind b ≡ kept s t b
  same_start b e = e ∙ sym (ap not (left_bit b e).is)

  none_early : (b : Bit) → ReadEarly s behind t b → ⊥
  none_early b r =
      let e = early_unknown s behind t b r in
      both_ways (is_of_any s names b) (left_bit b e).other (covered b (keeps_early s t b (early_alone s behind (kept s t) t b (same_start b e) r)))

  none_left : (b : Bit) → known s behind t b ≡ false → ⊥
  none_left b q = by_start (behind b) refl
    where
      by_start : (x : Bool) → behind b ≡ x → ⊥
      by_start true e = both_ways (known s behind t b) q (known_kept s behind t b e)
      by_start false e =
          let k : KeepsBit s t b = record { written = (left_bit b e).is; kept = inr (sym (known_alone s behind (kept s t) t b (same_start b e)) ∙ q) } in
          both_ways (is_of_any s names b) (left_bit b e).other (covered b k)

  cleared_ends : (b : Bit) → known_all s before (all_cleared names t) b ≡ true
  cleared_ends b = known_after s before names t b whole ∙ true_from_ne_false (known s behind t b) (none_left b)

-- a block that clears each name of which it keeps a bit keeps none, where none of the names is a memory
pub no_latch_after : (s : Names) (t : Statement) (names : List (List ℕ)) → AllByRecursion (IsWhole s) names → ((b : Bit) → KeepsBit s t b → is_of_any s names b ≡ true) → NoLatch s (with_defaults names t)
unfolding ReadsKnown known writes
no_latch_after s t [] whole covered = record {
  reads = reads_known s (kept s t) t (λ b r. both_ways false refl (covered b (keeps_early s t b r)));
  ends = λ b w. true_from_ne_false (known s (kept s t) t b) (λ q. both_ways false refl (covered b (record { written = w; kept = inr q })));
}
no_latch_after s t (name ∷ names) whole covered = record {
  reads = reads_after s (before s t (name ∷ names) whole covered) (name ∷ names) t whole (reads_known s (behind s t (name ∷ names) whole covered) t (none_early s t (name ∷ names) whole covered));
  ends = λ b w. cleared_ends s t (name ∷ names) whole covered b;
}
