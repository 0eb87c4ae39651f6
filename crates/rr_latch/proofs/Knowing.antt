-- Definite assignment: what is assigned stays so, and two ways to say that a bit is read too early.
use Rattle.std.proofs.Common.{◌≡◌, ◌∙◌, ap, inl, inr, Bool, true, false, not, ◌||◌, refl}
use Rattle.std.proofs.lemmas.Bool.{and_from, both_ways}
use Rattle.rr_syntax.specs.Tree.{Statement, Statements, Arm, Arms, Null, Block as Sequence, If, IfElse, Case, Assign, For, Done, Then, CaseItem, NoArms, MoreArms}
use Rattle.rr_expr.specs.declared.types.Bit.{Bit}
use Rattle.rr_expr.specs.Reading.{NamesBit, NamesBits}
use Rattle.rr_expr.specs.Scopes.{Names}
use Rattle.rr_flat.specs.Latches.{has_default, known, known_all, known_arm, known_arms, kept, NoLatch, ReadsKnown, AllReadKnown, ArmReadsKnown, ArmsReadKnown}
use Rattle.rr_flat.specs.Reads.{TargetReads, writes}
use Rattle.rr_flat.specs.Targets.{assigns_target}
use Rattle.rr_latch.specs.Unassigned.{ReadEarly, AnyReadEarly, ArmReadEarly, ArmsReadEarly, KeepsBit}

pub ext : (f g : Bit → Bool) → ((b : Bit) → f b ≡ g b) → f ≡ g
ext f g h = λ i b. h b i

or_true : (a : Bool) → (a || true) ≡ true
or_true true = refl
or_true false = refl

mutual
  unfolding known

  pub known_kept : (s : Names) (f : Bit → Bool) (t : Statement) (b : Bit) → f b ≡ true → known s f t b ≡ true
  known_kept s f Null b h = h
  known_kept s f (Sequence label ss) b h = known_all_kept s f ss b h
  known_kept s f (If c t) b h = and_from (known s f t b) (f b) (known_kept s f t b h) h
  known_kept s f (IfElse c t u) b h = and_from (known s f t b) (known s f u b) (known_kept s f t b h) (known_kept s f u b h)
  known_kept s f (Case kind on arms) b h = and_from (known_arms s f arms b) (has_default arms || f b) (known_arms_kept s f arms b h) (ap (λ z. has_default arms || z) h ∙ or_true (has_default arms))
  known_kept s f (Assign t true e) b h = ap (λ z. z || assigns_target s t b) h
  known_kept s f (Assign t false e) b h = h
  known_kept s f (For head t) b h = h

  known_all_kept : (s : Names) (f : Bit → Bool) (ts : Statements) (b : Bit) → f b ≡ true → known_all s f ts b ≡ true
  known_all_kept s f Done b h = h
  known_all_kept s f (Then t ts) b h = known_all_kept s (known s f t) ts b (known_kept s f t b h)

  known_arm_kept : (s : Names) (f : Bit → Bool) (a : Arm) (b : Bit) → f b ≡ true → known_arm s f a b ≡ true
  known_arm_kept s f (CaseItem labels colon body) b h = known_kept s f body b h

  pub known_arms_kept : (s : Names) (f : Bit → Bool) (arms : Arms) (b : Bit) → f b ≡ true → known_arms s f arms b ≡ true
  known_arms_kept s f NoArms b h = refl
  known_arms_kept s f (MoreArms a rest) b h = and_from (known_arm s f a b) (known_arms s f rest b) (known_arm_kept s f a b h) (known_arms_kept s f rest b h)

-- a bit cannot be read early where only assigned bits are read

clash : (R : Bit → Type 0) (f : Bit → Bool) (b : Bit) → ((c : Bit) → R c → f c ≡ true) → R b × (f b ≡ false) → ⊥
clash R f b k (r, e) = both_ways (f b) e (k b r)

mutual
  unfolding ReadsKnown ReadEarly

  pub not_early : (s : Names) (f : Bit → Bool) (t : Statement) (b : Bit) → ReadsKnown s f t → ReadEarly s f t b → ⊥
  not_early s f Null b k r = r
  not_early s f (Sequence label ss) b k r = none_early s f ss b k r
  not_early s f (If c t) b k (inl r) = clash (NamesBit s c) f b k.0 r
  not_early s f (If c t) b k (inr r) = not_early s f t b k.1 r
  not_early s f (IfElse c t u) b k (inl r) = clash (NamesBit s c) f b k.0 r
  not_early s f (IfElse c t u) b k (inr (inl r)) = not_early s f t b k.1.0 r
  not_early s f (IfElse c t u) b k (inr (inr r)) = not_early s f u b k.1.1 r
  not_early s f (Case kind on arms) b k (inl r) = clash (NamesBit s on) f b k.0 r
  not_early s f (Case kind on arms) b k (inr r) = no_arm_early s f arms b k.1 r
  not_early s f (Assign t now e) b k (inl r) = clash (TargetReads s t) f b k.0 r
  not_early s f (Assign t now e) b k (inr r) = clash (NamesBit s e) f b k.1 r
  not_early s f (For head t) b k r = r

  none_early : (s : Names) (f : Bit → Bool) (ts : Statements) (b : Bit) → AllReadKnown s f ts → AnyReadEarly s f ts b → ⊥
  none_early s f Done b k r = r
  none_early s f (Then t ts) b k (inl r) = not_early s f t b k.0 r
  none_early s f (Then t ts) b k (inr r) = none_early s (known s f t) ts b k.1 r

  arm_not_early : (s : Names) (f : Bit → Bool) (a : Arm) (b : Bit) → ArmReadsKnown s f a → ArmReadEarly s f a b → ⊥
  arm_not_early s f (CaseItem labels colon body) b k (inl r) = clash (NamesBits s labels) f b k.0 r
  arm_not_early s f (CaseItem labels colon body) b k (inr r) = not_early s f body b k.1 r

  no_arm_early : (s : Names) (f : Bit → Bool) (arms : Arms) (b : Bit) → ArmsReadKnown s f arms → ArmsReadEarly s f arms b → ⊥
  no_arm_early s f NoArms b k r = r
  no_arm_early s f (MoreArms a rest) b k (inl r) = arm_not_early s f a b k.0 r
  no_arm_early s f (MoreArms a rest) b k (inr r) = no_arm_early s f rest b k.1 r

-- and where no bit is read early only assigned bits are read

read_so : (R : Bit → Type 0) (f : Bit → Bool) → ((b : Bit) → R b × (f b ≡ false) → ⊥) → (b : Bit) → R b → f b ≡ true
read_so R f h b r = go (f b) refl
  where
    go : (u : Bool) → f b ≡ u → f b ≡ true
    go true e = e
    go false e = absurd (h b (r, e))

mutual
  unfolding ReadsKnown ReadEarly

  pub reads_known : (s : Names) (f : Bit → Bool) (t : Statement) → ((b : Bit) → ReadEarly s f t b → ⊥) → ReadsKnown s f t
  reads_known s f Null h = tt
  reads_known s f (Sequence label ss) h = all_read_known s f ss h
  reads_known s f (If c t) h = (read_so (NamesBit s c) f (λ b r. h b (inl r)), reads_known s f t (λ b r. h b (inr r)))
  reads_known s f (IfElse c t u) h =
      (read_so (NamesBit s c) f (λ b r. h b (inl r)), (reads_known s f t (λ b r. h b (inr (inl r))), reads_known s f u (λ b r. h b (inr (inr r)))))
  reads_known s f (Case kind on arms) h = (read_so (NamesBit s on) f (λ b r. h b (inl r)), arms_read_known s f arms (λ b r. h b (inr r)))
  reads_known s f (Assign t now e) h = (read_so (TargetReads s t) f (λ b r. h b (inl r)), read_so (NamesBit s e) f (λ b r. h b (inr r)))
  reads_known s f (For head t) h = tt

  all_read_known : (s : Names) (f : Bit → Bool) (ts : Statements) → ((b : Bit) → AnyReadEarly s f ts b → ⊥) → AllReadKnown s f ts
  all_read_known s f Done h = tt
  all_read_known s f (Then t ts) h = (reads_known s f t (λ b r. h b (inl r)), all_read_known s (known s f t) ts (λ b r. h b (inr r)))

  arm_reads_known : (s : Names) (f : Bit → Bool) (a : Arm) → ((b : Bit) → ArmReadEarly s f a b → ⊥) → ArmReadsKnown s f a
  arm_reads_known s f (CaseItem labels colon body) h = (read_so (NamesBits s labels) f (λ b r. h b (inl r)), reads_known s f body (λ b r. h b (inr r)))

  arms_read_known : (s : Names) (f : Bit → Bool) (arms : Arms) → ((b : Bit) → ArmsReadEarly s f arms b → ⊥) → ArmsReadKnown s f arms
  arms_read_known s f NoArms h = tt
  arms_read_known s f (MoreArms a rest) h = (arm_reads_known s f a (λ b r. h b (inl r)), arms_read_known s f rest (λ b r. h b (inr r)))

-- what is read early was not assigned before

later_too : (s : Names) (f : Bit → Bool) (t : Statement) (b : Bit) → known s f t b ≡ false → f b ≡ false
later_too s f t b e = go (f b) refl
  where
    go : (u : Bool) → f b ≡ u → f b ≡ false
    go false q = q
    go true q = absurd (both_ways (known s f t b) e (known_kept s f t b q))

mutual
  unfolding ReadEarly

  pub early_unknown : (s : Names) (f : Bit → Bool) (t : Statement) (b : Bit) → ReadEarly s f t b → f b ≡ false
  early_unknown s f Null b r = absurd r
  early_unknown s f (Sequence label ss) b r = any_unknown s f ss b r
  early_unknown s f (If c t) b (inl r) = r.1
  early_unknown s f (If c t) b (inr r) = early_unknown s f t b r
  early_unknown s f (IfElse c t u) b (inl r) = r.1
  early_unknown s f (IfElse c t u) b (inr (inl r)) = early_unknown s f t b r
  early_unknown s f (IfElse c t u) b (inr (inr r)) = early_unknown s f u b r
  early_unknown s f (Case kind on arms) b (inl r) = r.1
  early_unknown s f (Case kind on arms) b (inr r) = arms_unknown s f arms b r
  early_unknown s f (Assign t now e) b (inl r) = r.1
  early_unknown s f (Assign t now e) b (inr r) = r.1
  early_unknown s f (For head t) b r = absurd r

  any_unknown : (s : Names) (f : Bit → Bool) (ts : Statements) (b : Bit) → AnyReadEarly s f ts b → f b ≡ false
  any_unknown s f Done b r = absurd r
  any_unknown s f (Then t ts) b (inl r) = early_unknown s f t b r
  any_unknown s f (Then t ts) b (inr r) = later_too s f t b (any_unknown s (known s f t) ts b r)

  arm_unknown : (s : Names) (f : Bit → Bool) (a : Arm) (b : Bit) → ArmReadEarly s f a b → f b ≡ false
  arm_unknown s f (CaseItem labels colon body) b (inl r) = r.1
  arm_unknown s f (CaseItem labels colon body) b (inr r) = early_unknown s f body b r

  arms_unknown : (s : Names) (f : Bit → Bool) (arms : Arms) (b : Bit) → ArmsReadEarly s f arms b → f b ≡ false
  arms_unknown s f NoArms b r = absurd r
  arms_unknown s f (MoreArms a rest) b (inl r) = arm_unknown s f a b r
  arms_unknown s f (MoreArms a rest) b (inr r) = arms_unknown s f rest b r

-- a block keeps a bit exactly where it is a latch

pub keeps_early : (s : Names) (t : Statement) (b : Bit) → ReadEarly s (kept s t) t b → KeepsBit s t b
keeps_early s t b r = record { written = go (writes true s t b) (early_unknown s (kept s t) t b r); kept = inl r }
  where
    go : (u : Bool) → not u ≡ false → u ≡ true
    go true e = refl
    go false e = cc

pub keeps_latch : (s : Names) (t : Statement) (b : Bit) → KeepsBit s t b → NoLatch s t → ⊥
keeps_latch s t b k n = elim k.kept [
  | inl r ↦ not_early s (kept s t) t b n.reads r
  | inr e ↦ both_ways (known s (kept s t) t b) e (n.ends b k.written)
]

pub no_latch : (s : Names) (t : Statement) → ((b : Bit) → KeepsBit s t b → ⊥) → NoLatch s t
no_latch s t h = record { reads = reads_known s (kept s t) t (λ b r. h b (keeps_early s t b r)); ends = λ b w. go b w (known s (kept s t) t b) refl }
  where
    go : (b : Bit) → writes true s t b ≡ true → (u : Bool) → known s (kept s t) t b ≡ u → known s (kept s t) t b ≡ true
    go b w true e = e
    go b w false e = absurd (h b (record { written = w; kept = inr e }))
