-- What holds of a file that was mended.
use Rattle.std.specs.Prelude.{◌≡◌, ℕ, List, Option}
use Rattle.rr_syntax.specs.Tree.{SourceText}
use Rattle.rr_directive.specs.Expand.{IsTaken}
use Rattle.rr_flat.specs.Plain.{Flat}
use Rattle.rr_flat.specs.Signals.{Text}
use Rattle.rr_elaborate.specs.Designs.{IsDesignOf}
use Rattle.rr_kept.specs.Read.{SourceFile}
use Rattle.rr_map.specs.Printed.{ExpandsTo}
use Rattle.rr_lint_laws.specs.Clean.{IsClean}
use Rattle.rr_lint_laws.specs.Mended.{IsLint}
use Rattle.rr_lint_file.specs.Files.{IsMendedFile}

-- The bytes put out expand to a text whose tree is the mended source of the file's expansion. That source has a flat design, no `<=`
-- assigns in a combinational block of a module that has an instance, and no combinational block keeps a value (IEEE 1364-2005
-- sections 9.2 and 9.9.2); where this held before, the file is put out as it was.
pub record IsCleaned (file : List ℕ) (top : Option Text) (out : List ℕ) : Type 0 where
  pub read : SourceFile
  pub flat : Flat
  pub expansion : IsTaken file read.text read.origins
  pub design : IsDesignOf read.text read.tokens read.source top flat
  pub mended : SourceText
  pub lint : IsLint read.source flat mended
  pub text : List ℕ
  pub printed : ExpandsTo out text mended
  pub clean : IsClean mended top
  pub unchanged : IsClean read.source top → out ≡ file

abbrev pub MendedAreClean : Type 0
MendedAreClean = (file : List ℕ) (top : Option Text) (out : List ℕ) → IsMendedFile file top out → IsCleaned file top out
