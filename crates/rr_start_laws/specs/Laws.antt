-- The laws of the starting values of a source.
use Rattle.std.specs.Prelude.{◌≡◌, ℕ, ◌<◌, length, get_or, Option, Ok}
use Rattle.rr_syntax.specs.Tree.{SourceText}
use Rattle.rr_flat.specs.Plain.{Flat}
use Rattle.rr_flat.specs.Signals.{Text}
use Rattle.rr_flatten.specs.Walk.{flat_of}
use Rattle.rr_start_laws.specs.Starting.{AreInitials, BeginsWith}

-- the `initial` items of an instance are those of its module, and there are no others
abbrev pub InitialsAreItems : Type 0
InitialsAreItems = (source : SourceText) (top : Option Text) (flat : Flat) → flat_of source top ≡ Ok flat → AreInitials source flat

-- each variable and each word of a memory begins with what the last assignment to it gives it, or else its declaration
abbrev pub LastSettingCounts : Type 0
LastSettingCounts = (source : SourceText) (top : Option Text) (flat : Flat) → flat_of source top ≡ Ok flat → (id : ℕ) → id < length flat.signals → BeginsWith flat id (get_or flat.starts id 0)
