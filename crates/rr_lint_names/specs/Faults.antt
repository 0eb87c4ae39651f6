-- Why a source is not mended.
use Rattle.std.specs.Prelude.{◌≡◌, ℕ}
use Rattle.rr_syntax.specs.Tree.{Statement}
use Rattle.rr_expr.specs.Scopes.{Names}
use Rattle.rr_flat.specs.Plain.{Flat}
use Rattle.rr_lint_laws.specs.Mended.{IsFirstWordLatch}
use Rattle.rr_lint_names.specs.Latched.{IsKeptWord}
use Rattle.rr_lint_names.specs.declared.fault.LintFault.{LintFault}
use Rattle.rr_lint_names.specs.declared.fault.LintFault.TheVariants.{Latch, Memory}

-- the first block that keeps a bit of a memory, which no assignment clears (IEEE 1364-2005 section 4.9.3), or want of room for the answer, which is free
abbrev pub IsLintFault : Flat → LintFault → Type 0
IsLintFault flat (Latch bit block) = IsFirstWordLatch flat bit block
IsLintFault flat Memory = Unit {0}

-- of the block with this token
abbrev pub IsBlockFault : Names → Statement → ℕ → LintFault → Type 0
IsBlockFault names body token (Latch bit block) = (block ≡ token) × IsKeptWord names body bit
IsBlockFault names body token Memory = Unit {0}
