-- what a statement does stands only on the bits that it reads
use Rattle.std.proofs.Common.{◌≡◌, ℕ, max, List, Bool, true, false, not, cond, ◌||◌, refl, ap, ◌∙◌, ◌⊎◌, inl, inr}
use Rattle.std.proofs.lemmas.Bool.{cases_Bool, and_parts, both_ways, or_cases}
use Rattle.rr_bits.specs.Words.{is_zero}
use Rattle.rr_syntax.specs.Tree.{Tree, Trees, End, More, Statement, Statements, Arm, Arms, Null, Block as Sequence, If, IfElse, Case, Assign, For, Done, Then, CaseItem, NoArms, MoreArms}
use Rattle.rr_expr.specs.declared.types.Bit.{Bit}
use Rattle.rr_expr.specs.declared.types.Shape.{Shape}
use Rattle.rr_expr.specs.Reading.{NamesBit, NamesBits}
use Rattle.rr_expr.specs.Scopes.{Names}
use Rattle.rr_expr.specs.Values.{form, value}
use Rattle.rr_expr.proofs.NamedBits.{value_by_named_bits}
use Rattle.rr_flat.specs.Latches.{is_default, has_default, known, known_all, known_arm, known_arms, ReadsKnown, AllReadKnown, ArmReadsKnown, ArmsReadKnown, kept, NoLatch}
use Rattle.rr_flat.specs.Reads.{TargetReads, StatementReads, StatementsRead, ArmReads, ArmsRead, writes, write_any, arm_writes, arms_write}
use Rattle.rr_flat.specs.Targets.{has_bit, target_bits, writes_target, assigns_target}
use Rattle.rr_cycle.specs.Exec.{Environment, assigned, is_true, labels_of, case_shape, is_matched, executed, executed_all, executed_arm, executed_case, executed_default}
use Rattle.rr_cycle.proofs.TargetBits.{Agree, target_local, target_written, assigned_there}
use Rattle.rr_cycle.proofs.Writes.{write_agree, write_outside}
use Rattle.rr_flat.proofs.Bits.{missed, or_none}

pub test_same : (s : Names) (c : Tree) (e f : Environment) → Agree e f (NamesBit s c) → is_true s c e ≡ is_true s c f
test_same s c e f h = ap (λ (xs : List Bool). not (is_zero xs)) (value_by_named_bits s c e f h (form s c).width (form s c).signed)

pub match_same : (s : Names) (kind : ℕ) (a : Shape) (x : List Bool) (ts : Trees) (e f : Environment) → Agree e f (NamesBits s ts) → is_matched s kind a x ts e ≡ is_matched s kind a x ts f
unfolding is_matched NamesBit
match_same s kind a x End e f h = refl
match_same s kind a x (More t ts) e f h = rw (value_by_named_bits s t e f (λ b n. h b (inl n)) a.width a.signed, match_same s kind a x ts e f (λ b n. h b (inr n))) refl

branch_outside : (c : Bool) (x y e : Environment) (b : Bit) → x b ≡ e b → y b ≡ e b → cond c x y b ≡ e b
branch_outside true x y e b h k = h
branch_outside false x y e b h k = k

-- a statement keeps what it does not write
mutual
  unfolding executed writes

  pub outside : (s : Names) (t : Statement) (e : Environment) (b : Bit) → writes true s t b ≡ false → executed s t e b ≡ e b
  outside s Null e b h = refl
  outside s (Sequence label ss) e b h = outside_all s ss e b h
  outside s (If c t) e b h = branch_outside (is_true s c e) (executed s t e) e e b (outside s t e b h) refl
  outside s (IfElse c t u) e b h =
      let p = or_none (writes true s t b) (writes true s u b) h in
      branch_outside (is_true s c e) (executed s t e) (executed s u e) e b (outside s t e b p.0) (outside s u e b p.1)
  outside s (Case kind on arms) e b h =
      outside_case s kind (case_shape s on arms) (value s on e (case_shape s on arms).width (case_shape s on arms).signed) arms (executed_default s arms e) e b h (outside_default s arms e b h)
  outside s (Assign t true x) e b h =
      write_outside (target_bits s e t) (assigned s t x e) e b (missed (has_bit (target_bits s e t) b) (λ i. both_ways (writes_target s t b) h (target_written s e t b i)))
  outside s (Assign t false x) e b h = refl
  outside s (For head t) e b h = refl

  outside_all : (s : Names) (ss : Statements) (e : Environment) (b : Bit) → write_any true s ss b ≡ false → executed_all s ss e b ≡ e b
  outside_all s Done e b h = refl
  outside_all s (Then t ts) e b h =
      let p = or_none (writes true s t b) (write_any true s ts b) h in
      outside_all s ts (executed s t e) b p.1 ∙ outside s t e b p.0

  outside_arm : (s : Names) (a : Arm) (e : Environment) (b : Bit) → arm_writes true s a b ≡ false → executed_arm s a e b ≡ e b
  outside_arm s (CaseItem labels colon body) e b h = outside s body e b h

  outside_case : (s : Names) (kind : ℕ) (a : Shape) (x : List Bool) (arms : Arms) (other e : Environment) (b : Bit) → arms_write true s arms b ≡ false → other b ≡ e b →
      executed_case s kind a x arms other e b ≡ e b
  outside_case s kind a x NoArms other e b h o = o
  outside_case s kind a x (MoreArms arm rest) other e b h o =
      let p = or_none (arm_writes true s arm b) (arms_write true s rest b) h in
      branch_outside (is_matched s kind a x (labels_of arm) e) (executed_arm s arm e) (executed_case s kind a x rest other e) e b (outside_arm s arm e b p.0) (outside_case s kind a x rest other e b p.1 o)

  outside_default : (s : Names) (arms : Arms) (e : Environment) (b : Bit) → arms_write true s arms b ≡ false → executed_default s arms e b ≡ e b
  outside_default s NoArms e b h = refl
  outside_default s (MoreArms arm rest) e b h =
      let p = or_none (arm_writes true s arm b) (arms_write true s rest b) h in
      branch_outside (is_default arm) (executed_arm s arm e) (executed_default s rest e) e b (outside_arm s arm e b p.0) (outside_default s rest e b p.1)

branch_agree : (c d : Bool) (x y u v : Environment) (b : Bit) → c ≡ d → x b ≡ u b → y b ≡ v b → cond c x y b ≡ cond d u v b
branch_agree true d x y u v b q h k = rw (← q) h
branch_agree false d x y u v b q h k = rw (← q) k

-- the bits of R that are known
abbrev pub Known : (Bit → Bool) → (Bit → Type 0) → Bit → Type 0
Known before R b = (before b ≡ true) × R b

abbrev Within : (Bit → Type 0) → (Bit → Type 0) → Type 0
Within P R = (b : Bit) → P b → R b

names_agree : (R P : Bit → Type 0) (before : Bit → Bool) (e f : Environment) → Within P R → ((b : Bit) → P b → before b ≡ true) → Agree e f (Known before R) → Agree e f P
names_agree R P before e f r k h = λ b n. h b (k b n, r b n)

default_known : (d k r : Bool) → d ≡ false → ((d || r) || k) ≡ true → (r || k) ≡ true
default_known true k r q h = absurd (both_ways true q refl)
default_known false k r q h = h

none_known : (k : Bool) → (false || k) ≡ true → k ≡ true
none_known k h = h

mutual
  unfolding executed known ReadsKnown StatementReads has_default

  pub run_agree : (s : Names) (R : Bit → Type 0) (t : Statement) (before : Bit → Bool) (e f : Environment) → Within (StatementReads s t) R →
      ReadsKnown s before t → Agree e f (Known before R) → Agree (executed s t e) (executed s t f) (Known (known s before t) R)
  run_agree s R Null before e f r k h = h
  run_agree s R (Sequence label ss) before e f r k h = run_all s R ss before e f r k h
  run_agree s R (If c t) before e f r k h = λ b q.
      let p = and_parts (known s before t b) (before b) q.0 in
      branch_agree (is_true s c e) (is_true s c f) (executed s t e) e (executed s t f) f b
      (test_same s c e f (names_agree R (NamesBit s c) before e f (λ a m. r a (inl m)) k.0 h))
      (run_agree s R t before e f (λ a m. r a (inr m)) k.1 h b (p.0, q.1))
      (h b (p.1, q.1))
  run_agree s R (IfElse c t u) before e f r k h = λ b q.
      let p = and_parts (known s before t b) (known s before u b) q.0 in
      branch_agree (is_true s c e) (is_true s c f) (executed s t e) (executed s u e) (executed s t f) (executed s u f) b
      (test_same s c e f (names_agree R (NamesBit s c) before e f (λ a m. r a (inl m)) k.0 h))
      (run_agree s R t before e f (λ a m. r a (inr (inl m))) k.1.0 h b (p.0, q.1))
      (run_agree s R u before e f (λ a m. r a (inr (inr m))) k.1.1 h b (p.1, q.1))
  run_agree s R (Case kind on arms) before e f r k h = λ b q.
      let p = and_parts (known_arms s before arms b) (has_default arms || before b) q.0 in
      let a = case_shape s on arms in
      let v : value s on e a.width a.signed ≡ value s on f a.width a.signed = value_by_named_bits s on e f (names_agree R (NamesBit s on) before e f (λ a m. r a (inl m)) k.0 h) a.width a.signed in
      ap (λ (x : List Bool). executed_case s kind a x arms (executed_default s arms e) e b) v
      ∙ run_case s R kind a (value s on f a.width a.signed) arms before (executed_default s arms e) (executed_default s arms f) e f (λ a m. r a (inr m)) k.1 h b p.0 q.1
      (run_default s R arms before e f (λ a m. r a (inr m)) k.1 h b p.0 q.1 p.1)
  run_agree s R (Assign t true x) before e f r k h = λ b q.
      let v : assigned s t x e ≡ assigned s t x f = value_by_named_bits s x e f (names_agree R (NamesBit s x) before e f (λ a m. r a (inr m)) k.1 h) (max (form s t).width (form s x).width) (form s x).signed in
      let p : target_bits s e t ≡ target_bits s f t = target_local s e f t (names_agree R (TargetReads s t) before e f (λ a m. r a (inl m)) k.0 h) in
      let same : (e b ≡ f b) ⊎ (has_bit (target_bits s e t) b ≡ true) = elim (or_cases (before b) (assigns_target s t b) q.0) [
        | inl i ↦ inl (h b (i, q.1))
        | inr i ↦ inr (assigned_there s e t b i)
      ] in
      write_agree (target_bits s e t) (assigned s t x e) e f b same ∙ rw (p, v) refl
  run_agree s R (Assign t false x) before e f r k h = h
  run_agree s R (For head t) before e f r k h = h

  run_all : (s : Names) (R : Bit → Type 0) (ss : Statements) (before : Bit → Bool) (e f : Environment) → Within (StatementsRead s ss) R →
      AllReadKnown s before ss → Agree e f (Known before R) → Agree (executed_all s ss e) (executed_all s ss f) (Known (known_all s before ss) R)
  run_all s R Done before e f r k h = h
  run_all s R (Then t ts) before e f r k h =
      run_all s R ts (known s before t) (executed s t e) (executed s t f) (λ b q. r b (inr q)) k.1 (run_agree s R t before e f (λ b q. r b (inl q)) k.0 h)

  run_arm : (s : Names) (R : Bit → Type 0) (arm : Arm) (before : Bit → Bool) (e f : Environment) → Within (ArmReads s arm) R →
      ArmReadsKnown s before arm → Agree e f (Known before R) → Agree (executed_arm s arm e) (executed_arm s arm f) (Known (known_arm s before arm) R)
  run_arm s R (CaseItem labels colon body) before e f r k h = run_agree s R body before e f (λ b q. r b (inr q)) k.1 h

  labels_same : (s : Names) (R : Bit → Type 0) (kind : ℕ) (a : Shape) (x : List Bool) (arm : Arm) (before : Bit → Bool) (e f : Environment) → Within (ArmReads s arm) R →
      ArmReadsKnown s before arm → Agree e f (Known before R) → is_matched s kind a x (labels_of arm) e ≡ is_matched s kind a x (labels_of arm) f
  labels_same s R kind a x (CaseItem labels colon body) before e f r k h = match_same s kind a x labels e f (names_agree R (NamesBits s labels) before e f (λ b q. r b (inl q)) k.0 h)

  run_case : (s : Names) (R : Bit → Type 0) (kind : ℕ) (a : Shape) (x : List Bool) (arms : Arms) (before : Bit → Bool) (o p e f : Environment) → Within (ArmsRead s arms) R →
      ArmsReadKnown s before arms → Agree e f (Known before R) → (b : Bit) → known_arms s before arms b ≡ true → R b → o b ≡ p b →
      executed_case s kind a x arms o e b ≡ executed_case s kind a x arms p f b
  run_case s R kind a x NoArms before o p e f r k h b q m same = same
  run_case s R kind a x (MoreArms arm rest) before o p e f r k h b q m same =
      let w = and_parts (known_arm s before arm b) (known_arms s before rest b) q in
      branch_agree (is_matched s kind a x (labels_of arm) e) (is_matched s kind a x (labels_of arm) f)
      (executed_arm s arm e) (executed_case s kind a x rest o e) (executed_arm s arm f) (executed_case s kind a x rest p f) b
      (labels_same s R kind a x arm before e f (λ b q. r b (inl q)) k.0 h)
      (run_arm s R arm before e f (λ b q. r b (inl q)) k.0 h b (w.0, m))
      (run_case s R kind a x rest before o p e f (λ b q. r b (inr q)) k.1 h b w.1 m same)

  run_default : (s : Names) (R : Bit → Type 0) (arms : Arms) (before : Bit → Bool) (e f : Environment) → Within (ArmsRead s arms) R →
      ArmsReadKnown s before arms → Agree e f (Known before R) → (b : Bit) → known_arms s before arms b ≡ true → R b → (has_default arms || before b) ≡ true →
      executed_default s arms e b ≡ executed_default s arms f b
  run_default s R NoArms before e f r k h b q m d = h b (none_known (before b) d, m)
  run_default s R (MoreArms arm rest) before e f r k h b q m d =
      let w = and_parts (known_arm s before arm b) (known_arms s before rest b) q in
      elim (cases_Bool (is_default arm)) [
        | inl t ↦ rw t (run_arm s R arm before e f (λ b q. r b (inl q)) k.0 h b (w.0, m))
        | inr t ↦ rw t (run_default s R rest before e f (λ b q. r b (inr q)) k.1 h b w.1 m (default_known (is_default arm) (before b) (has_default rest) t d))
      ]

not_true : (b : Bool) → not b ≡ true → b ≡ false
not_true true h = absurd (both_ways false refl h)
not_true false h = refl

-- a statement without latches computes what it writes from what it reads and does not write
pub statement_local : (s : Names) (t : Statement) → NoLatch s t → (e f : Environment) (b : Bit) → writes true s t b ≡ true →
    Agree e f (λ c. StatementReads s t c × (writes true s t c ≡ false)) → executed s t e b ≡ executed s t f b
statement_local s t l e f b w h =
    run_agree s (λ c. StatementReads s t c ⊎ (writes true s t c ≡ true)) t (kept s t) e f (λ c r. inl r) l.reads
    (λ c q. elim q.1 [ inl r ↦ h c (r, not_true (writes true s t c) q.0) | inr v ↦ absurd (both_ways (writes true s t c) (not_true (writes true s t c) q.0) v) ])
    b (l.ends b w, inr w)

pub ruleset statements = (outside, statement_local)
