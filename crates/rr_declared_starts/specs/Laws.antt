-- The law of the starting values that declarations give.
use Rattle.std.specs.Prelude.{◌≡◌, Option, Ok}
use Rattle.rr_syntax.specs.Tree.{SourceText}
use Rattle.rr_flat.specs.Plain.{Flat}
use Rattle.rr_flat.specs.Signals.{Text}
use Rattle.rr_flatten.specs.Walk.{flat_of}
use Rattle.rr_declared_starts.specs.Starts.{AreStarts}

-- a variable begins with the value that its declaration gives it, and where none gives it one with 0
abbrev pub DeclaredValuesAreStarts : Type 0
DeclaredValuesAreStarts = (source : SourceText) (top : Option Text) (flat : Flat) → flat_of source top ≡ Ok flat → AreStarts source flat
