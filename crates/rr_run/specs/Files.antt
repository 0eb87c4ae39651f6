-- The run of a file with compiler directives (IEEE 1364-2005 section 19) is that of its expansion; and why there is none. A fault
-- of the expansion is told at its place in the file.
use Rattle.std.specs.Prelude.{ℕ, ◌≡◌, ◌⊎◌, Bool, List, length, map, nat_lt, Option, if◌then◌else◌}
use Rattle.rr_directive.specs.declared.fault.DirectiveFault.TheVariants as directive
use Rattle.rr_directive.specs.declared.origin.Origin.{Origin}
use Rattle.rr_directive.specs.Expand.{Faults, IsTaken}
use Rattle.rr_directive.specs.Places.{offset_at}
use Rattle.rr_lex.specs.Tokens.{Lexeme}
use Rattle.rr_flat.specs.Signals.{Text}
use Rattle.rr_flat.specs.Plain.{Flat}
use Rattle.rr_run.specs.declared.fault.Fault.{Fault}
use Rattle.rr_run.specs.declared.fault.Fault.TheVariants as fault
use Rattle.rr_run.specs.Refusals.{Refusal, At, Expanded}
use Rattle.rr_run.specs.declared.rows.TableKind.{TableKind}
use Rattle.rr_run.specs.Runs.{HasNoTable, IsLawfulDesign, IsRun, RefusesDesign}

-- the place in the file of a byte of its expansion; of the end of the expansion, the length of the file
abbrev pub place : List Origin → ℕ → ℕ → ℕ
place origins size at = if nat_lt at (length origins) then offset_at origins at else size

-- where a fault of the expansion is told; that there is no top stands at 0 in each text
abbrev pub told_at : Fault → List Origin → ℕ → ℕ → ℕ
told_at fault.NoTop origins size at = at
told_at what origins size at = place origins size at

-- a refusal of the expansion, told at its place in the file
abbrev pub placed : List Origin → ℕ → Refusal → Refusal
placed origins size (At what at) = At what (told_at what origins size at)
placed origins size refusal = refusal

-- the tokens of the expansion, with their places in the file
abbrev pub placed_token : List Origin → ℕ → Lexeme → Lexeme
placed_token origins size t = record { word = t.word; start = place origins size t.start; end = place origins size t.end }

abbrev pub placed_tokens : List Origin → ℕ → List Lexeme → List Lexeme
placed_tokens origins size ts = map (placed_token origins size) ts

-- why a file has no expansion (sections 19.3 and 19.4): its first fault at a byte of the file, or that it passes the limit
abbrev pub RefusesExpansion : List ℕ → Refusal → Type 0
RefusesExpansion file (At fault.UnknownMacro at) = Faults file (directive.UnknownMacro at)
RefusesExpansion file (At fault.BadDirective at) = Faults file (directive.BadDirective at)
RefusesExpansion file (At fault.MacroLoop at) = Faults file (directive.MacroLoop at)
RefusesExpansion file (Expanded count) = Faults file (directive.TooMany count)
RefusesExpansion file refusal = ⊥

-- the file expands to a text, which is this lawful design
pub record IsFileDesign (file : List ℕ) (top word : Option Text) (tokens : List Lexeme) (flat : Flat) (clock : Option ℕ) (rising : Bool) : Type 0 where
  pub text : List ℕ
  pub origins : List Origin
  pub expansion : IsTaken file text origins
  pub design : IsLawfulDesign text top word tokens flat clock rising

-- the file expands to a text without a lawful design, for a reason that is told at its place in the file
pub record HasNoDesign (file : List ℕ) (top word : Option Text) (refusal : Refusal) : Type 0 where
  pub text : List ℕ
  pub origins : List Origin
  pub expansion : IsTaken file text origins
  pub found : Refusal
  pub refused : RefusesDesign text top word found
  pub told : refusal ≡ placed origins (length file) found

-- why a file has no lawful design: of its directives first
abbrev pub RefusesFileDesign : List ℕ → Option Text → Option Text → Refusal → Type 0
RefusesFileDesign file top word refusal = RefusesExpansion file refusal ⊎ HasNoDesign file top word refusal

-- the file expands to a text, whose run on the table of this kind gives this
pub record IsFileRun (kind : TableKind) (file table : List ℕ) (top word : Option Text) (printed : List ℕ) : Type 0 where
  pub text : List ℕ
  pub origins : List Origin
  pub expansion : IsTaken file text origins
  pub run : IsRun kind text table top word printed

-- the file expands to a text, whose design is lawful; the table of this kind is none for its ports, for this reason
pub record HasNoFileTable (kind : TableKind) (file table : List ℕ) (top word : Option Text) (refusal : Refusal) : Type 0 where
  pub text : List ℕ
  pub origins : List Origin
  pub expansion : IsTaken file text origins
  pub refused : HasNoTable kind text table top word refusal

-- why a file and a table have no run: of the directives first, then of the design, then of the table
abbrev pub RefusesFile : TableKind → List ℕ → List ℕ → Option Text → Option Text → Refusal → Type 0
RefusesFile kind file table top word refusal = RefusesFileDesign file top word refusal ⊎ HasNoFileTable kind file table top word refusal
