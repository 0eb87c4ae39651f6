-- Bits that a combinational block keeps (IEEE 1364-2005 sections 9.2.1, 9.4, 9.5): read before they are assigned on some
-- path, or left without a value at its end.
use Rattle.std.specs.Prelude.{◌≡◌, ℕ, ◌<◌, ◌⊎◌, length, Bool, true, false}
use Rattle.rr_syntax.specs.Tree.{Statement, Statements, Arm, Arms, Null, Block as Sequence, If, IfElse, Case, Assign, For, Done, Then, CaseItem, NoArms, MoreArms}
use Rattle.rr_expr.specs.declared.types.Bit.{Bit}
use Rattle.rr_expr.specs.Reading.{NamesBit, NamesBits}
use Rattle.rr_expr.specs.Scopes.{Names}
use Rattle.rr_flat.specs.Latches.{known, kept, NoLatch}
use Rattle.rr_flat.specs.Plain.{Flat}
use Rattle.rr_flat.specs.Reads.{TargetReads, writes}
use Rattle.rr_flat.specs.Writers.{scope_at, block_at}
use Rattle.rr_latch.specs.declared.latches.Latch.{Latch}

-- on some path the bit is read where it has not been assigned on each path to there
unfoldable mutual
  pub ReadEarly : Names → (Bit → Bool) → Statement → Bit → Type 0
  ReadEarly s before Null b = ⊥
  ReadEarly s before (Sequence label ss) b = AnyReadEarly s before ss b
  ReadEarly s before (If c t) b = (NamesBit s c b × (before b ≡ false)) ⊎ ReadEarly s before t b
  ReadEarly s before (IfElse c t u) b = (NamesBit s c b × (before b ≡ false)) ⊎ (ReadEarly s before t b ⊎ ReadEarly s before u b)
  ReadEarly s before (Case kind on arms) b = (NamesBit s on b × (before b ≡ false)) ⊎ ArmsReadEarly s before arms b
  ReadEarly s before (Assign t now e) b = (TargetReads s t b × (before b ≡ false)) ⊎ (NamesBit s e b × (before b ≡ false))
  ReadEarly s before (For h t) b = ⊥

  pub AnyReadEarly : Names → (Bit → Bool) → Statements → Bit → Type 0
  AnyReadEarly s before Done b = ⊥
  AnyReadEarly s before (Then t ts) b = ReadEarly s before t b ⊎ AnyReadEarly s (known s before t) ts b

  pub ArmReadEarly : Names → (Bit → Bool) → Arm → Bit → Type 0
  ArmReadEarly s before (CaseItem labels colon body) b = (NamesBits s labels b × (before b ≡ false)) ⊎ ReadEarly s before body b

  pub ArmsReadEarly : Names → (Bit → Bool) → Arms → Bit → Type 0
  ArmsReadEarly s before NoArms b = ⊥
  ArmsReadEarly s before (MoreArms a rest) b = ArmReadEarly s before a b ⊎ ArmsReadEarly s before rest b

-- a written bit that is read before it is assigned, or is not assigned at the end
pub record KeepsBit (s : Names) (t : Statement) (b : Bit) : Type 0 where
  pub written : writes true s t b ≡ true
  pub kept : ReadEarly s (kept s t) t b ⊎ (known s (kept s t) t b ≡ false)

-- the first combinational block that keeps a bit, by its token
pub record IsLatch (flat : Flat) (l : Latch) : Type 0 where
  pub block : ℕ
  pub inside : block < length flat.combinational
  pub token : l.block ≡ (block_at flat.combinational block).token
  pub keeps : KeepsBit (scope_at flat (block_at flat.combinational block).scope) (block_at flat.combinational block).body l.bit
  pub before : (k : ℕ) → k < block → NoLatch (scope_at flat (block_at flat.combinational k).scope) (block_at flat.combinational k).body
