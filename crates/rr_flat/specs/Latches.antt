-- Which bits a statement has assigned on every path (IEEE 1364-2005 sections 9.2.1, 9.4 and 9.5). No loop stands in a flat design
-- (section 9.6), as elaboration unfolds them.
use Rattle.std.specs.Prelude.{◌≡◌, Bool, true, false, not, ◌&&◌, ◌||◌}
use Rattle.rr_syntax.specs.Tree.{Trees, End, More, Statement, Statements, Arm, Arms, Null, Block as Sequence, If, IfElse, Case, Assign, For, Done, Then, CaseItem, NoArms, MoreArms}
use Rattle.rr_expr.specs.declared.types.Bit.{Bit}
use Rattle.rr_expr.specs.Reading.{NamesBit, NamesBits}
use Rattle.rr_expr.specs.Scopes.{Names}
use Rattle.rr_flat.specs.Reads.{TargetReads, writes}
use Rattle.rr_flat.specs.Targets.{assigns_target}

abbrev pub has_labels : Trees → Bool
has_labels End = false
has_labels (More t ts) = true

abbrev pub is_default : Arm → Bool
is_default (CaseItem labels colon body) = not (has_labels labels)

unfoldable pub has_default : Arms → Bool
has_default NoArms = false
has_default (MoreArms a rest) = is_default a || has_default rest

-- the bits that are assigned on each path, where those are that were before; a `case` without `default` has an empty path
unfoldable mutual
  pub known : Names → (Bit → Bool) → Statement → Bit → Bool
  known s before Null b = before b
  known s before (Sequence label ss) b = known_all s before ss b
  known s before (If c t) b = known s before t b && before b
  known s before (IfElse c t u) b = known s before t b && known s before u b
  known s before (Case kind on arms) b = known_arms s before arms b && (has_default arms || before b)
  known s before (Assign t true e) b = before b || assigns_target s t b
  known s before (Assign t false e) b = before b
  known s before (For h t) b = before b

  pub known_all : Names → (Bit → Bool) → Statements → Bit → Bool
  known_all s before Done b = before b
  known_all s before (Then t ts) b = known_all s (known s before t) ts b

  pub known_arm : Names → (Bit → Bool) → Arm → Bit → Bool
  known_arm s before (CaseItem labels colon body) b = known s before body b

  pub known_arms : Names → (Bit → Bool) → Arms → Bit → Bool
  known_arms s before NoArms b = true
  known_arms s before (MoreArms a rest) b = known_arm s before a b && known_arms s before rest b

-- on each path only such bits are read
unfoldable mutual
  pub ReadsKnown : Names → (Bit → Bool) → Statement → Type 0
  ReadsKnown s before Null = Unit {0}
  ReadsKnown s before (Sequence label ss) = AllReadKnown s before ss
  ReadsKnown s before (If c t) = ((b : Bit) → NamesBit s c b → before b ≡ true) × ReadsKnown s before t
  ReadsKnown s before (IfElse c t u) =
      ((b : Bit) → NamesBit s c b → before b ≡ true) × (ReadsKnown s before t × ReadsKnown s before u)
  ReadsKnown s before (Case kind on arms) = ((b : Bit) → NamesBit s on b → before b ≡ true) × ArmsReadKnown s before arms
  ReadsKnown s before (Assign t now e) =
      ((b : Bit) → TargetReads s t b → before b ≡ true) × ((b : Bit) → NamesBit s e b → before b ≡ true)
  ReadsKnown s before (For h t) = Unit {0}

  pub AllReadKnown : Names → (Bit → Bool) → Statements → Type 0
  AllReadKnown s before Done = Unit {0}
  AllReadKnown s before (Then t ts) = ReadsKnown s before t × AllReadKnown s (known s before t) ts

  pub ArmReadsKnown : Names → (Bit → Bool) → Arm → Type 0
  ArmReadsKnown s before (CaseItem labels colon body) =
      ((b : Bit) → NamesBits s labels b → before b ≡ true) × ReadsKnown s before body

  pub ArmsReadKnown : Names → (Bit → Bool) → Arms → Type 0
  ArmsReadKnown s before NoArms = Unit {0}
  ArmsReadKnown s before (MoreArms a rest) = ArmReadsKnown s before a × ArmsReadKnown s before rest

-- the bits that a statement does not write by `=`
abbrev pub kept : Names → Statement → Bit → Bool
kept s t b = not (writes true s t b)

-- no written bit is read before it is assigned, and each is assigned at the end
pub record NoLatch (s : Names) (t : Statement) : Type 0 where
  pub reads : ReadsKnown s (kept s t) t
  pub ends : (b : Bit) → writes true s t b ≡ true → known s (kept s t) t b ≡ true
