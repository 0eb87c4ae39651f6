-- Flat designs without token numbers.
use Rattle.std.specs.Prelude.{◌≡◌, map, Option, Ok}
use Rattle.rr_syntax.specs.Tree.{SourceText, bare, bare_statement, bare_edge}
use Rattle.rr_flat.specs.Signals.{Text, Signal}
use Rattle.rr_flat.specs.Plain.{Side, Written, Whole, Driver, Block, Initial, Flat}
use Rattle.rr_flatten.specs.Walk.{flat_of}

abbrev pub bare_signal : Signal → Signal
bare_signal s = record s { token = 0 }

abbrev pub bare_side : Side → Side
bare_side (Written t i) = Written (bare t) i
bare_side (Whole id) = Whole id

abbrev pub bare_driver : Driver → Driver
bare_driver d = record { target = bare_side d.target; value = bare_side d.value; token = 0 }

abbrev pub bare_block : Block → Block
bare_block b = record { body = bare_statement b.body; edges = map bare_edge b.edges; scope = b.scope; token = 0 }

abbrev pub bare_initial : Initial → Initial
bare_initial i = record { body = bare_statement i.body; scope = i.scope; token = 0 }

-- the same design with every token number 0
unfoldable pub bare_flat : Flat → Flat
bare_flat flat = record flat {
  top = 0;
  signals = map bare_signal flat.signals;
  drivers = map bare_driver flat.drivers;
  clocked = map bare_block flat.clocked;
  combinational = map bare_block flat.combinational;
  initials = map bare_initial flat.initials;
}

-- two designs are equal without token numbers
abbrev pub IsSameFlat : Flat → Flat → Type 0
IsSameFlat f g = bare_flat f ≡ bare_flat g

-- the source has this flat design, but for token numbers
pub record HasSameFlat (source : SourceText) (top : Option Text) (due : Flat) : Type 0 where
  pub flat : Flat
  pub is : flat_of source top ≡ Ok flat
  pub same : IsSameFlat due flat
