-- The file in which two faults of the combinational blocks of its design are mended, and why there is none.
use Rattle.std.specs.Prelude.{◌≡◌, ◌⊎◌, ◌-◌, ℕ, true, false, List, ◌∷◌, ◌++◌, length, nat_lt, Option, None, if◌then◌else◌}
use Rattle.std.specs.List.{All}
use Rattle.rr_directive.specs.declared.origin.Origin.{Origin}
use Rattle.rr_directive.specs.Expand.{IsTaken}
use Rattle.rr_directive.specs.Places.{offset_at}
use Rattle.rr_edit.specs.Edits.{Edit}
use Rattle.rr_edit.specs.Lifted.{lifted, lifts}
use Rattle.rr_lex.specs.Tokens.{Lexeme}
use Rattle.rr_expr.specs.declared.types.Bit.{Bit}
use Rattle.rr_flat.specs.Lawful.{RightLabels, RightTargets}
use Rattle.rr_flat.specs.Plain.{Flat}
use Rattle.rr_flat.specs.Signals.{Text}
use Rattle.rr_elaborate.specs.Designs.{IsDesign, IsDesignOf, start_of}
use Rattle.rr_kept.specs.Read.{SourceFile}
use Rattle.rr_run.specs.declared.fault.Fault.{Fault}
use Rattle.rr_run.specs.declared.fault.Fault.TheVariants as fault
use Rattle.rr_run.specs.Files.{RefusesExpansion, placed}
use Rattle.rr_run.specs.Refusals.{Refusal, At}
use Rattle.rr_run.specs.Runs.{IsBroken, RefusesDesign}
use Rattle.rr_lint_laws.specs.Mended.{IsFirstWordLatch}
use Rattle.rr_lint.specs.Edited.{AreLintEdits}

-- The file is read as this: its expansion is the text of a design whose targets and labels are right (IEEE 1364-2005 sections 6.1,
-- 9.2 and 9.5.1), and these edits mend the text.
pub record HasEdits (file : List ℕ) (top : Option Text) (read : SourceFile) (made : List Edit) : Type 0 where
  pub expansion : IsTaken file read.text read.origins
  pub flat : Flat
  pub design : IsDesignOf read.text read.tokens read.source top flat
  pub targets : RightTargets flat
  pub labels : RightLabels flat
  pub edits : AreLintEdits read.tokens read.source flat made

-- each of the edits can be made in the file itself, and this is the file with all of them
abbrev pub IsMadeIn : List ℕ → List Origin → List Edit → List ℕ → Type 0
IsMadeIn file origins made out = All (λ e. lifts origins e ≡ true) made × (out ≡ lifted origins made 0 file)

-- those that mend the text
pub record IsMendedFile (file : List ℕ) (top : Option Text) (out : List ℕ) : Type 0 where
  pub read : SourceFile
  pub made : List Edit
  pub has : HasEdits file top read made
  pub made_in : IsMadeIn file read.origins made out

-- 1 to 16 and 37: the file expands to a text that has no flat design
pub record HasNoFlat (file : List ℕ) (top : Option Text) (refusal : Refusal) : Type 0 where
  pub text : List ℕ
  pub origins : List Origin
  pub expansion : IsTaken file text origins
  pub none : (tokens : List Lexeme) (flat : Flat) → IsDesign text tokens top flat → ⊥
  pub found : Refusal
  pub refused : RefusesDesign text top None found
  pub told : refusal ≡ placed origins (length file) found

-- 24 and 25: a target or a label of its design is wrong
pub record HasWrongText (file : List ℕ) (top : Option Text) (refusal : Refusal) : Type 0 where
  pub text : List ℕ
  pub origins : List Origin
  pub expansion : IsTaken file text origins
  pub what : Fault
  pub at : ℕ
  pub which : (what ≡ fault.BadTarget) ⊎ (what ≡ fault.WildLabel)
  pub broken : IsBroken text top None what at
  pub told : refusal ≡ placed origins (length file) (At what at)

-- 20: a block of its design would keep a bit of a memory, which no assignment clears (section 4.9.3): the first such block, told at
-- its `always`
pub record HasWordLatch (file : List ℕ) (top : Option Text) (refusal : Refusal) : Type 0 where
  pub read : SourceFile
  pub expansion : IsTaken file read.text read.origins
  pub flat : Flat
  pub design : IsDesignOf read.text read.tokens read.source top flat
  pub targets : RightTargets flat
  pub labels : RightLabels flat
  pub bit : Bit
  pub block : ℕ
  pub latch : IsFirstWordLatch flat bit block
  pub told : refusal ≡ placed read.origins (length file) (At fault.Latch (start_of read.tokens block))

-- the first edit that cannot be made in the file
pub record IsFirstFixed (origins : List Origin) (made : List Edit) (e : Edit) : Type 0 where
  pub before : List Edit
  pub after : List Edit
  pub are : made ≡ before ++ (e ∷ after)
  pub lift : All (λ e. lifts origins e ≡ true) before
  pub fixed : lifts origins e ≡ false

-- where it is told: at the first byte that it replaces, or where it replaces none, at the byte before it
abbrev pub anchor : Edit → ℕ
anchor e = if nat_lt e.from e.to then e.from else e.from - 1

-- .. and so the refusal tells the first of these edits
abbrev pub IsFixedAt : List Origin → List Edit → Refusal → Type 0
IsFixedAt origins made refusal = (e : Edit) × (IsFirstFixed origins made e × (refusal ≡ At fault.FromMacro (offset_at origins (anchor e))))

-- 43: an edit cannot be made in the file, which is told at its place there
pub record HasFixedEdit (file : List ℕ) (top : Option Text) (refusal : Refusal) : Type 0 where
  pub read : SourceFile
  pub made : List Edit
  pub has : HasEdits file top read made
  pub fixed : IsFixedAt read.origins made refusal

-- why a design whose targets and labels are right is not mended: of memories first, then of what directives hide
abbrev pub RefusesEdits : List ℕ → Option Text → Refusal → Type 0
RefusesEdits file top refusal = HasWordLatch file top refusal ⊎ HasFixedEdit file top refusal

-- why a file is not mended: of its directives first (38 to 40, 16), then of its text and its elaboration, then of targets and labels,
-- then of its edits
abbrev pub RefusesMend : List ℕ → Option Text → Refusal → Type 0
RefusesMend file top refusal = RefusesExpansion file refusal ⊎ (HasNoFlat file top refusal ⊎ (HasWrongText file top refusal ⊎ RefusesEdits file top refusal))
