-- The laws of the flat design of a source.
use Rattle.std.specs.Prelude.{◌≡◌, ℕ, ◌<◌, length, Option, Ok, All}
use Rattle.rr_syntax.specs.Tree.{SourceText}
use Rattle.rr_flat.specs.Plain.{Flat}
use Rattle.rr_flat.specs.Signals.{Text}
use Rattle.rr_flatten.specs.Walk.{flat_of}
use Rattle.rr_flat_laws.specs.Blocks.{AreBlocks}
use Rattle.rr_flat_laws.specs.Hierarchy.{IsTop, AreAssignments, AreConnections, IsDue}
use Rattle.rr_flat_laws.specs.Names.{module_of, NamesAre}
use Rattle.rr_flat_laws.specs.Rules.{KeepRules}

-- each name that an instance declares as a net or a variable is one signal, or a memory of words, and each signal is such a name or word
abbrev pub NamesAreSignals : Type 0
NamesAreSignals = (source : SourceText) (top : Option Text) (flat : Flat) → flat_of source top ≡ Ok flat → NamesAre source flat

-- each continuous assignment of an instance is one driver
abbrev pub AssignmentsAreDrivers : Type 0
AssignmentsAreDrivers = (source : SourceText) (top : Option Text) (flat : Flat) → flat_of source top ≡ Ok flat → (i : ℕ) → i < length flat.owners → AreAssignments source flat i

-- each connected port of an instance below the top is one driver
abbrev pub ConnectionsAreDrivers : Type 0
ConnectionsAreDrivers = (source : SourceText) (top : Option Text) (flat : Flat) → flat_of source top ≡ Ok flat → AreConnections source flat

-- each `always` of an instance is one block, without loops, and there are no others
abbrev pub BlocksAreAlways : Type 0
BlocksAreAlways = (source : SourceText) (top : Option Text) (flat : Flat) → flat_of source top ≡ Ok flat → AreBlocks source flat

-- the first instance is one of the top
abbrev pub TopIsFirst : Type 0
TopIsFirst = (source : SourceText) (top : Option Text) (flat : Flat) → flat_of source top ≡ Ok flat → IsTop source top (module_of source flat 0)

-- there are no other drivers
abbrev pub NoOtherDrivers : Type 0
NoOtherDrivers = (source : SourceText) (top : Option Text) (flat : Flat) → flat_of source top ≡ Ok flat → All (IsDue flat) flat.drivers

-- in each item of an instance's module the names of loops stand where they may
abbrev pub RulesKept : Type 0
RulesKept = (source : SourceText) (top : Option Text) (flat : Flat) → flat_of source top ≡ Ok flat → (i : ℕ) → i < length flat.owners → KeepRules (module_of source flat i)
