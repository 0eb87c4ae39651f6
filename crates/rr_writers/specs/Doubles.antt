-- Bits with two writers (IEEE 1364-2005 sections 6.1 and 9.2), in the order of the walk.
use Rattle.std.specs.Prelude.{◌≡◌, ℕ, ◌<◌, ◌≤◌, length, get_or}
use Rattle.rr_expr.specs.declared.types.Bit.{Bit}
use Rattle.rr_flat.specs.declared.design.Part as design
use Rattle.rr_flat.specs.declared.design.Part.TheVariants as part
use Rattle.rr_flat.specs.Plain.{Flat}
use Rattle.rr_flat.specs.Writers.{Writer, Driven, Clocked, Combinational, Writes, driver_at, block_at, initial_at}
use Rattle.rr_writers.specs.declared.doubles.TwoDrivers.{TwoDrivers}

-- the driver or block that a writer stands in
abbrev pub part_of : Writer → design.Part
part_of (Driven k i) = part.Driver k
part_of (Clocked k) = part.Clocked k
part_of (Combinational k) = part.Combinational k

abbrev pub part_at : Flat → ℕ → design.Part
part_at flat i = get_or flat.walk i (part.Driver 0)

-- the token of its target, or of its `always` or `initial`
abbrev pub token_of : Flat → design.Part → ℕ
token_of flat (part.Driver k) = (driver_at flat k).token
token_of flat (part.Clocked k) = (block_at flat.clocked k).token
token_of flat (part.Combinational k) = (block_at flat.combinational k).token
token_of flat (part.Initial k) = (initial_at flat.initials k).token

-- a writer among the first n drivers and blocks
abbrev pub IsAmong : Flat → ℕ → Writer → Type 0
IsAmong flat n x = (i : ℕ) × ((i < n) × ((i < length flat.walk) × (part_at flat i ≡ part_of x)))

-- no bit has two of these
abbrev pub OneAmong : Flat → ℕ → Type 0
OneAmong flat n = (x y : Writer) (b : Bit) → IsAmong flat n x → IsAmong flat n y → Writes flat x b → Writes flat y b → x ≡ y

-- two writers of a bit, of which the later is the first in the order of the walk that is a second one
pub record IsDouble (flat : Flat) (d : TwoDrivers) : Type 0 where
  pub earlier : ℕ
  pub later : ℕ
  pub order : earlier ≤ later
  pub inside : later < length flat.walk
  pub first : Writer
  pub second : Writer
  pub first_at : part_at flat earlier ≡ part_of first
  pub second_at : part_at flat later ≡ part_of second
  pub apart : first ≡ second → ⊥
  pub first_writes : Writes flat first d.bit
  pub second_writes : Writes flat second d.bit
  pub first_token : d.first ≡ token_of flat (part_at flat earlier)
  pub second_token : d.second ≡ token_of flat (part_at flat later)
  pub before : OneAmong flat later
