-- What holds of a source that was mended.
use Rattle.std.specs.Prelude.{◌≡◌, List, ℕ, Option, Ok}
use Rattle.rr_syntax.specs.Items.{NumberedSource, WellFormedSource}
use Rattle.rr_syntax.specs.Tree.{SourceText}
use Rattle.rr_flat.specs.Plain.{Flat}
use Rattle.rr_flat.specs.Signals.{Text}
use Rattle.rr_flatten.specs.Walk.{flat_of}
use Rattle.rr_body_laws.specs.Bodies.{source_with}
use Rattle.rr_lint_laws.specs.Clean.{IsClean}
use Rattle.rr_lint_laws.specs.Mended.{IsLint, Marks, mended_body}

-- it has neither of the two faults, where the tokens are numbered as those of a text are: names are cleared by the token of their
-- `always`, also in an instance in which the loop that assigns them has no turn, and so the token is to tell the module that declares them
abbrev pub LintCleans : Type 0
LintCleans = (source mended : SourceText) (top : Option Text) (flat : Flat) → NumberedSource source → flat_of source top ≡ Ok flat → IsLint source flat mended → IsClean mended top

-- a source without them, of which each target is one by the rules of the syntax, stays as it is
abbrev pub CleanStays : Type 0
CleanStays =
    (source mended : SourceText) (top : Option Text) (flat : Flat) → WellFormedSource source → flat_of source top ≡ Ok flat → IsClean source top →
    IsLint source flat mended → mended ≡ source

-- a source is mended in one way
abbrev pub OneLint : Type 0
OneLint = (source mended other : SourceText) (flat : Flat) → IsLint source flat mended → IsLint source flat other → mended ≡ other

-- the rules of the syntax stay kept, whatever names are cleared
abbrev pub LintStaysFormed : Type 0
LintStaysFormed = (source : SourceText) (numbers : List ℕ) (marks : Marks) → WellFormedSource source → WellFormedSource (source_with numbers (mended_body marks) source)
