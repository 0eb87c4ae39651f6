-- What gives each bit of a flat design its value, and which bits that value stands on (IEEE 1364-2005 sections
-- 6.1, 9.9 and 12.3.9.2).
use Rattle.std.specs.Prelude.{ℕ, ◌-◌, ◌<◌, ◌≡◌, ◌⊎◌, List, [], ◌++◌, length, map, Bool, true, false, cond, ◌&&◌, ◌||◌, Option, Some, None, get_or, nat_lt, pos}
use Rattle.rr_syntax.specs.Tree.{Tree, Trees, Name, Literal, Bit as BitSelect, Part, Indexed, Unary, Binary, Cond, Concat, Repeat, Cast, Paren, End, More, Null}
use Rattle.rr_expr.specs.declared.types.Bit.{Bit}
use Rattle.rr_expr.specs.declared.types.Entity.{Entity}
use Rattle.rr_expr.specs.declared.types.Entity.TheVariants.{Signal as SignalEntity, Instance}
use Rattle.rr_expr.specs.Reading.{NamesBit}
use Rattle.rr_expr.specs.Scopes.{Names}
use Rattle.rr_expr.specs.Values.{form, nowhere}
use Rattle.rr_flat.specs.Signals.{signal_at}
use Rattle.rr_flat.specs.Plain.{Side, Written, Whole, Driver, Block, Initial, Flat}
use Rattle.rr_flat.specs.Reads.{StatementReads, writes}
use Rattle.rr_flat.specs.Targets.{bits_there, target_bits, is_constant}

abbrev pub scope_at : Flat → ℕ → Names
scope_at flat i = get_or flat.scopes i []

abbrev pub no_driver : Driver
no_driver = record { target = Whole 0; value = Whole 0; token = 0 }

abbrev pub driver_at : Flat → ℕ → Driver
driver_at flat k = get_or flat.drivers k no_driver

abbrev pub no_block : Block
no_block = record { body = Null; edges = []; scope = 0; token = 0 }

abbrev pub block_at : List Block → ℕ → Block
block_at blocks k = get_or blocks k no_block

abbrev pub no_initial : Initial
no_initial = record { body = Null; scope = 0; token = 0 }

abbrev pub initial_at : List Initial → ℕ → Initial
initial_at initials k = get_or initials k no_initial

-- what a whole signal stands for
abbrev pub entity_of_signal : Flat → ℕ → Entity
entity_of_signal flat id = SignalEntity id (signal_at flat.signals id).range (signal_at flat.signals id).signed

-- all bits of a signal, lowest first
abbrev pub signal_bits : Flat → ℕ → List (Option Bit)
signal_bits flat id = bits_there (entity_of_signal flat id) (pos 0) (signal_at flat.signals id).width

-- the bits of a driver's target, lowest first; its indices are constant in a lawful design
unfoldable pub driven_by : Flat → Side → List (Option Bit)
driven_by flat (Written t i) = target_bits (scope_at flat i) nowhere t
driven_by flat (Whole id) = signal_bits flat id

abbrev pub driven : Flat → ℕ → List (Option Bit)
driven flat k = driven_by flat (driver_at flat k).target

-- the bits that a side reads
unfoldable pub SideReads : Flat → Side → Bit → Type 0
SideReads flat (Written t i) b = NamesBit (scope_at flat i) t b
SideReads flat (Whole id) b = (b.signal ≡ id) × (b.place < (signal_at flat.signals id).width)

abbrev pub writes_now : Flat → Block → Bit → Bool
writes_now flat block b = writes true (scope_at flat block.scope) block.body b

abbrev pub writes_later : Flat → Block → Bit → Bool
writes_later flat block b = writes false (scope_at flat block.scope) block.body b

abbrev pub writes_at_all : Flat → Block → Bit → Bool
writes_at_all flat block b = writes_now flat block b || writes_later flat block b

-- what gives a bit its value: a place of a driver's target, or a block
pub data Writer : Type 0 where
  Driven : ℕ → ℕ → Writer
  Clocked : ℕ → Writer
  Combinational : ℕ → Writer

unfoldable pub Writes : Flat → Writer → Bit → Type 0
Writes flat (Driven k i) b = (k < length flat.drivers) × (get_or (driven flat k) i None ≡ Some b)
Writes flat (Clocked k) b = (k < length flat.clocked) × (writes_at_all flat (block_at flat.clocked k) b ≡ true)
Writes flat (Combinational k) b = (k < length flat.combinational) × (writes_at_all flat (block_at flat.combinational k) b ≡ true)

-- a side that only takes bits: a name, a select with constant indices, a literal, or a concatenation of these
unfoldable mutual
  pub is_wiring : Names → Tree → Bool
  is_wiring s (Name token name) = true
  is_wiring s (Literal token n) = true
  is_wiring s (BitSelect token name i) = is_constant s i
  is_wiring s (Part token name l r) = true
  is_wiring s (Indexed token name f n up) = is_constant s f
  is_wiring s (Unary op t) = false
  is_wiring s (Binary op l r) = false
  is_wiring s (Cond a b c) = false
  is_wiring s (Concat ts) = are_wiring s ts
  is_wiring s (Repeat n ts) = false
  is_wiring s (Cast signed t) = false
  is_wiring s (Paren t) = false

  pub are_wiring : Names → Trees → Bool
  are_wiring s End = true
  are_wiring s (More t ts) = is_wiring s t && are_wiring s ts

unfoldable pub nothing : ℕ → List (Option Bit)
nothing n = map (λ i. None) (bits_there Instance (pos 0) n)

-- the bits that it takes, lowest first; a bit of a constant is none
unfoldable mutual
  pub taken : Names → Tree → List (Option Bit)
  taken s (Name token name) = target_bits s nowhere (Name token name)
  taken s (Literal token n) = nothing n.width
  taken s (BitSelect token name i) = target_bits s nowhere (BitSelect token name i)
  taken s (Part token name l r) = target_bits s nowhere (Part token name l r)
  taken s (Indexed token name f n up) = target_bits s nowhere (Indexed token name f n up)
  taken s (Unary op t) = []
  taken s (Binary op l r) = []
  taken s (Cond a b c) = []
  taken s (Concat ts) = all_taken s ts
  taken s (Repeat n ts) = []
  taken s (Cast signed t) = []
  taken s (Paren t) = []

  pub all_taken : Names → Trees → List (Option Bit)
  all_taken s End = []
  all_taken s (More t ts) = all_taken s ts ++ taken s t

unfoldable pub side_is_wiring : Flat → Side → Bool
side_is_wiring flat (Written t i) = is_wiring (scope_at flat i) t
side_is_wiring flat (Whole id) = true

unfoldable pub side_taken : Flat → Side → List (Option Bit)
side_taken flat (Written t i) = taken (scope_at flat i) t
side_taken flat (Whole id) = signal_bits flat id

unfoldable pub side_signed : Flat → Side → Bool
side_signed flat (Written t i) = (form (scope_at flat i) t).signed
side_signed flat (Whole id) = (signal_at flat.signals id).signed

-- the bit at a place: above the last one a signed side repeats its top bit, any other has 0 (section 5.4)
abbrev pub taken_at : Bool → List (Option Bit) → ℕ → Option Bit
taken_at signed bits i = cond (nat_lt i (length bits)) (get_or bits i None) (cond signed (get_or bits (length bits - 1) None) None)

abbrev pub wires : Flat → ℕ → Bool
wires flat k = side_is_wiring flat (driver_at flat k).value

-- the bits that the bit at a place of a driver's target names: of a wiring driver the one that it takes, else all that
-- its right side reads
abbrev pub NamesIf : Bool → Flat → ℕ → ℕ → Bit → Type 0
NamesIf true flat k i c = taken_at (side_signed flat (driver_at flat k).value) (side_taken flat (driver_at flat k).value) i ≡ Some c
NamesIf false flat k i c = SideReads flat (driver_at flat k).value c

abbrev pub DriverNames : Flat → ℕ → ℕ → Bit → Type 0
DriverNames flat k i c = NamesIf (wires flat k) flat k i c

-- the bits that each written bit of a combinational block names: those that it reads and does not write
abbrev pub BlockNames : Flat → ℕ → Bit → Type 0
BlockNames flat k c =
    StatementReads (scope_at flat (block_at flat.combinational k).scope) (block_at flat.combinational k).body c
    × (writes_at_all flat (block_at flat.combinational k) c ≡ false)

-- a combinational bit names another
abbrev pub BitNames : Flat → Bit → Bit → Type 0
BitNames flat b c =
    ((k : ℕ) × ((i : ℕ) × (Writes flat (Driven k i) b × DriverNames flat k i c)))
    ⊎ ((k : ℕ) × (Writes flat (Combinational k) b × BlockNames flat k c))
