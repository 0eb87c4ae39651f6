-- Refusals of a design and its table, and what a text without a tree is.
use Rattle.std.proofs.Common.{◌≡◌, ◌⊎◌, inl, inr, refl, ℕ, List, Option}
use Rattle.rr_run.specs.declared.fault.Fault.{Fault}
use Rattle.rr_run.specs.declared.fault.Fault.TheVariants as fault
use Rattle.rr_run.specs.declared.fault.RunFault.{RunFault}
use Rattle.rr_run.specs.declared.rows.TableKind.{TableKind}
use Rattle.rr_run.specs.declared.fault.RunFault.TheVariants as run_fault
use Rattle.rr_run.specs.Refusals.{Refusal as RunRefusal, At, TooMany, Expanded, NoHeader, UnknownColumn, ColumnTwice, MissingInput, RowLength, BadCell, CellTooLarge, NotUtf8, BadVcd, NoScope, StopsWhere as RunStops}
use Rattle.rr_run.specs.Files.{RefusesFile}
use Rattle.rr_endings.specs.Views.{stop_from, StopsWhere}
use Rattle.rr_sites_command.specs.Lists.{RefusesSites}
use Rattle.rr_lint_file.specs.Files.{RefusesMend}
use Rattle.rr_top.specs.Commands.{RefusesLint, RefusesSiteList, RefusesTexts}
use Rattle.rr_top.specs.Expected.{IsSyntax}

other_fault : (a b : Fault) (at offset : ℕ) → (a ≡ b → ⊥) → At a at ≡ At b offset → ⊥
other_fault a b at offset apart is = apart (let same : a ≡ b = cc in same)

placed : (f : Fault) (at : ℕ) → (f ≡ fault.Syntax → ⊥) → IsSyntax (At f at) → ⊥
placed f at apart (offset, is) = other_fault f fault.Syntax at offset apart is

at_placed : (f : Fault) (at : ℕ) → (IsSyntax (At f at) → ⊥) ⊎ IsSyntax (At f at)
at_placed fault.BadByte at = inl (placed fault.BadByte at (λ e. cc))
at_placed fault.BadNumber at = inl (placed fault.BadNumber at (λ e. cc))
at_placed fault.OpenComment at = inl (placed fault.OpenComment at (λ e. cc))
at_placed fault.Directive at = inl (placed fault.Directive at (λ e. cc))
at_placed fault.Unsupported at = inl (placed fault.Unsupported at (λ e. cc))
at_placed fault.Syntax at = inr (at, refl)
at_placed fault.NoTop at = inl (placed fault.NoTop at (λ e. cc))
at_placed fault.UnknownModule at = inl (placed fault.UnknownModule at (λ e. cc))
at_placed fault.SelfInstance at = inl (placed fault.SelfInstance at (λ e. cc))
at_placed fault.NameTwice at = inl (placed fault.NameTwice at (λ e. cc))
at_placed fault.UnknownName at = inl (placed fault.UnknownName at (λ e. cc))
at_placed fault.BadRange at = inl (placed fault.BadRange at (λ e. cc))
at_placed fault.NotConstant at = inl (placed fault.NotConstant at (λ e. cc))
at_placed fault.PortMismatch at = inl (placed fault.PortMismatch at (λ e. cc))
at_placed fault.TooWide at = inl (placed fault.TooWide at (λ e. cc))
at_placed fault.TwoDrivers at = inl (placed fault.TwoDrivers at (λ e. cc))
at_placed fault.WrongAssign at = inl (placed fault.WrongAssign at (λ e. cc))
at_placed fault.Race at = inl (placed fault.Race at (λ e. cc))
at_placed fault.Latch at = inl (placed fault.Latch at (λ e. cc))
at_placed fault.Loop at = inl (placed fault.Loop at (λ e. cc))
at_placed fault.ClockUse at = inl (placed fault.ClockUse at (λ e. cc))
at_placed fault.TwoClocks at = inl (placed fault.TwoClocks at (λ e. cc))
at_placed fault.BadTarget at = inl (placed fault.BadTarget at (λ e. cc))
at_placed fault.WildLabel at = inl (placed fault.WildLabel at (λ e. cc))
at_placed fault.BadLoop at = inl (placed fault.BadLoop at (λ e. cc))
at_placed fault.UnknownMacro at = inl (placed fault.UnknownMacro at (λ e. cc))
at_placed fault.BadDirective at = inl (placed fault.BadDirective at (λ e. cc))
at_placed fault.MacroLoop at = inl (placed fault.MacroLoop at (λ e. cc))
at_placed fault.FromMacro at = inl (placed fault.FromMacro at (λ e. cc))

-- whether the place of a refusal is decided
pub placed_or_syntax : (r : RunRefusal) → (IsSyntax r → ⊥) ⊎ IsSyntax r
placed_or_syntax (At f at) = at_placed f at
placed_or_syntax (TooMany limit count) = inl (λ (offset, is). cc)
placed_or_syntax (Expanded count) = inl (λ (offset, is). cc)
placed_or_syntax NoHeader = inl (λ (offset, is). cc)
placed_or_syntax (UnknownColumn column) = inl (λ (offset, is). cc)
placed_or_syntax (ColumnTwice column) = inl (λ (offset, is). cc)
placed_or_syntax (MissingInput name) = inl (λ (offset, is). cc)
placed_or_syntax (RowLength row) = inl (λ (offset, is). cc)
placed_or_syntax (BadCell row column) = inl (λ (offset, is). cc)
placed_or_syntax (CellTooLarge row column) = inl (λ (offset, is). cc)
placed_or_syntax NotUtf8 = inl (λ (offset, is). cc)
placed_or_syntax (BadVcd line) = inl (λ (offset, is). cc)
placed_or_syntax NoScope = inl (λ (offset, is). cc)

-- what the calls below refuse, the commands refuse
module _ (kind : TableKind) (top word : Option (List ℕ)) (design table : List ℕ) where
  pub stops_run : (f : RunFault) → RunStops (RefusesFile kind design table top word) f → StopsWhere (RefusesTexts kind top word design table) (stop_from f)
  stops_run (run_fault.Refused r) h = h
  stops_run run_fault.Memory h = tt

module _ (top word : Option (List ℕ)) (design : List ℕ) where
  pub stops_sites : (f : RunFault) → RunStops (RefusesSites design top word) f → StopsWhere (RefusesSiteList top word design) (stop_from f)
  stops_sites (run_fault.Refused r) h = h
  stops_sites run_fault.Memory h = tt

module _ (top : Option (List ℕ)) (design : List ℕ) where
  pub stops_lint : (f : RunFault) → RunStops (RefusesMend design top) f → StopsWhere (RefusesLint top design) (stop_from f)
  stops_lint (run_fault.Refused r) h = h
  stops_lint run_fault.Memory h = tt
