-- What statements write where each `<=` counts as `=`.
use Rattle.std.proofs.Common.{◌≡◌, ◌∙◌, sym, ap, Bool, true, false, ◌||◌, refl}
use Rattle.rr_syntax.specs.Tree.{Statement, Statements, Arm, Arms, Null, Block as Sequence, If, IfElse, Case, Assign, For, Done, Then, CaseItem, NoArms, MoreArms}
use Rattle.rr_expr.specs.declared.types.Bit.{Bit}
use Rattle.rr_expr.specs.Scopes.{Names}
use Rattle.rr_flat.specs.Reads.{writes, write_any, arm_writes, arms_write}
use Rattle.rr_flat.specs.Targets.{writes_target}
use Rattle.rr_latch.specs.Immediate.{immediate, immediate_all, immediate_arm, immediate_arms}
use Rattle.rr_latch.specs.Paths.{counted}
use Rattle.rr_writers.specs.Assigned.{assigns}
use Rattle.rr_writers.proofs.Entries.{or_false}

four : (a b c d : Bool) → ((a || b) || (c || d)) ≡ ((a || c) || (b || d))
four true b c d = refl
four false true true d = refl
four false true false d = refl
four false false true d = refl
four false false false d = refl

-- both sides of an `or`
either : (p q a b c d : Bool) → p ≡ (a || b) → q ≡ (c || d) → (p || q) ≡ ((a || c) || (b || d))
either p q a b c d e f = ap (λ z. z || q) e ∙ (ap (λ z. (a || b) || z) f ∙ four a b c d)

mutual
  unfolding writes immediate

  pub immediate_writes : (s : Names) (t : Statement) (b : Bit) → writes true s (immediate t) b ≡ (writes true s t b || writes false s t b)
  immediate_writes s Null b = refl
  immediate_writes s (Sequence label ss) b = immediate_any s ss b
  immediate_writes s (If c t) b = immediate_writes s t b
  immediate_writes s (IfElse c t u) b =
      either (writes true s (immediate t) b) (writes true s (immediate u) b) (writes true s t b) (writes false s t b) (writes true s u b) (writes false s u b) (immediate_writes s t b) (immediate_writes s u b)
  immediate_writes s (Case kind on arms) b = immediate_by_arms s arms b
  immediate_writes s (Assign t true e) b = sym (or_false (writes_target s t b))
  immediate_writes s (Assign t false e) b = refl
  immediate_writes s (For head t) b = refl

  immediate_any : (s : Names) (ts : Statements) (b : Bit) → write_any true s (immediate_all ts) b ≡ (write_any true s ts b || write_any false s ts b)
  immediate_any s Done b = refl
  immediate_any s (Then t ts) b =
      either (writes true s (immediate t) b) (write_any true s (immediate_all ts) b) (writes true s t b) (writes false s t b) (write_any true s ts b) (write_any false s ts b) (immediate_writes s t b) (immediate_any s ts b)

  immediate_by_arm : (s : Names) (a : Arm) (b : Bit) → arm_writes true s (immediate_arm a) b ≡ (arm_writes true s a b || arm_writes false s a b)
  immediate_by_arm s (CaseItem labels colon t) b = immediate_writes s t b

  immediate_by_arms : (s : Names) (arms : Arms) (b : Bit) → arms_write true s (immediate_arms arms) b ≡ (arms_write true s arms b || arms_write false s arms b)
  immediate_by_arms s NoArms b = refl
  immediate_by_arms s (MoreArms a rest) b =
      either (arm_writes true s (immediate_arm a) b) (arms_write true s (immediate_arms rest) b) (arm_writes true s a b) (arm_writes false s a b) (arms_write true s rest b) (arms_write false s rest b)
      (immediate_by_arm s a b) (immediate_by_arms s rest b)

pub counted_writes : (later : Bool) (s : Names) (t : Statement) (b : Bit) → writes true s (counted later t) b ≡ assigns later s t b
counted_writes true s t b = immediate_writes s t b
counted_writes false s t b = sym (or_false (writes true s t b))
