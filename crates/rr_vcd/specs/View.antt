-- What the values of the reader stand for, and what they keep while it reads.
use Rattle.std.specs.Prelude.{ℕ, ◌-◌, ◌≡◌, ◌≤◌, ◌<◌, ◌⊎◌, List, [], ◌∷◌, length, map, All, Bool, true, false, not, ◌&&◌, ◌==◌, nat_le, nat_lt, Option, Some, None, option_map, is_some, IfSome, if◌then◌else◌}
use Rattle.std.specs.List.{list_any}
use Rattle.std.specs.Str.{bytes_eq}
use Rattle.rr_flat.specs.declared.fault.Limit.TheVariants.{Rows}
use Rattle.rr_vcd_text.specs.Dump.{Declared, Variable, Told, IsDump}
use Rattle.rr_vcd_text.specs.Breaks.{IsBadAt}
use Rattle.rr_trace.specs.declared.cell.Cell.{Cell}
use Rattle.rr_trace.specs.declared.table.Table.{Table}
use Rattle.rr_trace.specs.Cells.{unknown_cell}
use Rattle.rr_trace.specs.Rows.{Row}
use Rattle.rr_trace.specs.Tables.{table_of_rows}
use Rattle.rr_trace.specs.View.{plain_table}
use Rattle.rr_vcd.specs.declared.fault.VcdFault.{VcdFault}
use Rattle.rr_vcd.specs.declared.fault.VcdFault.TheVariants.{BadVcd, TooMany, Memory}
use Rattle.rr_vcd.specs.declared.ports.Port.{Port}
use Rattle.rr_vcd.specs.declared.ports.Clock.{Clock}
use Rattle.rr_vcd.specs.declared.ports.Top.{Top}
use Rattle.rr_vcd.specs.declared.places.Key.{Key}
use Rattle.rr_vcd.specs.declared.slots.Slot.{Slot}
use Rattle.rr_vcd.specs.declared.probes.Probe.{Probe}
use Rattle.rr_vcd.specs.declared.probes.ClockProbe.{ClockProbe}
use Rattle.rr_vcd.specs.declared.probes.Probes.{Probes}
use Rattle.rr_vcd.specs.declared.sampler.Sampler.{Sampler}
use Rattle.rr_vcd.specs.Tops as tops
use Rattle.rr_vcd.specs.Values.{cell_of}
use Rattle.rr_vcd.specs.Moments.{moments, is_off, before_off, up_to, last_change, valued}
use Rattle.rr_vcd.specs.Scopes.{id_in}
use Rattle.rr_vcd.specs.Sampled.{cell_by, is_level, rows_of}

-- ports

abbrev pub plain_port : Port → tops.Port
plain_port p = record { name = p.name.now; width = p.width }

abbrev pub plain_clock : Clock → tops.Clock
plain_clock c = record { port = plain_port c.port; rising = c.rising }

abbrev pub plain_top : Top → tops.Top
plain_top t = record { every = map plain_port t.every.items; clock = option_map plain_clock t.clock; inputs = map plain_port t.inputs.items; outputs = map plain_port t.outputs.items }

abbrev pub IsWidth : ℕ → Type 0
IsWidth w = (1 ≤ w) × (w ≤ 128)

-- the ports of a table have 1 to 128 bits
pub record AreWidths (t : Top) : Type 0 where
  pub clock : IfSome t.clock (λ c. IsWidth c.port.width)
  pub inputs : All (λ p. IsWidth p.width) t.inputs.items
  pub outputs : All (λ p. IsWidth p.width) t.outputs.items

-- identifiers by scope, size and name

abbrev pub is_key : ℕ → tops.Port → Key → Bool
is_key s p k = s == k.scope && (bytes_eq k.name.now p.name && k.size == p.width)

-- the identifier that entries have for a port in a scope
unfoldable pub place_at : ℕ → tops.Port → List (Key × List ℕ) → Option (List ℕ)
place_at s p [] = None
place_at s p (e ∷ es) = if is_key s p e.0 then Some e.1 else place_at s p es

-- they are those of these variables
abbrev pub ArePlaces : List Variable → List (Key × List ℕ) → Type 0
ArePlaces vs places = (s : ℕ) (p : tops.Port) → place_at s p places ≡ id_in s p vs

-- probes: the identifier of a port in the chosen scope, where it has one, and the port's width

abbrev pub plain_probe : Probe → Option (List ℕ) × ℕ
plain_probe x = (option_map (λ t. t.now) x.id, x.width)

abbrev pub probe_in : Declared → ℕ → tops.Port → Option (List ℕ) × ℕ
probe_in d s p = (id_in s p d.variables, p.width)

abbrev pub plain_clock_probe : ClockProbe → (Option (List ℕ) × ℕ) × Bool
plain_clock_probe c = (plain_probe c.probe, c.rising)

abbrev pub clock_in : Declared → ℕ → tops.Clock → (Option (List ℕ) × ℕ) × Bool
clock_in d s c = (probe_in d s c.port, c.rising)

-- those of a top in a scope
pub record AreProbes (top : tops.Top) (d : Declared) (s : ℕ) (x : Probes) : Type 0 where
  pub clock : option_map plain_clock_probe x.clock ≡ option_map (clock_in d s) top.clock
  pub inputs : map plain_probe x.inputs.items ≡ map (probe_in d s) top.inputs
  pub outputs : map plain_probe x.outputs.items ≡ map (probe_in d s) top.outputs

-- no port is wider than 128 bits
pub record AreNarrow (x : Probes) : Type 0 where
  pub clock : IfSome x.clock (λ c. c.probe.width ≤ 128)
  pub inputs : All (λ y. y.width ≤ 128) x.inputs.items
  pub outputs : All (λ y. y.width ≤ 128) x.outputs.items

-- slots: the bits of an identifier before the current moment and now

unfoldable pub slot_at : List ℕ → List (List ℕ × Slot) → Option Slot
slot_at id [] = None
slot_at id (e ∷ es) = if bytes_eq id e.0 then Some e.1 else slot_at id es

-- of which no change was read
abbrev pub unseen : Slot
unseen = record { earlier = unknown_cell; current = unknown_cell; moment = 0 }

abbrev pub before_moment : ℕ → Slot → Cell
before_moment m s = if s.moment == m then s.earlier else s.current

pub record IsSlot (id : List ℕ) (past told : List Told) (moment : ℕ) (s : Slot) : Type 0 where
  pub current : s.current ≡ cell_of 128 (last_change id told)
  pub earlier : before_moment moment s ≡ cell_of 128 (last_change id past)
  pub begun : s.moment ≤ moment

-- so much was told before the current moment, and so much is told now
abbrev pub AreSlots : List Told → List Told → ℕ → List (List ℕ × Slot) → Type 0
AreSlots past told moment slots = (id : List ℕ) → IfSome (slot_at id slots) (IsSlot id past told moment)

-- the bits of 128 are kept
abbrev pub IsWatched : List (List ℕ × Slot) → Option (List ℕ) × ℕ → Type 0
IsWatched slots x = IfSome x.0 (λ id. is_some (slot_at id slots) ≡ true) × (x.1 ≤ 128)

pub record AreWatched (slots : List (List ℕ × Slot)) (x : Probes) : Type 0 where
  pub clock : IfSome x.clock (λ c. IsWatched slots (plain_probe c.probe))
  pub inputs : All (λ y. IsWatched slots (plain_probe y)) x.inputs.items
  pub outputs : All (λ y. IsWatched slots (plain_probe y)) x.outputs.items

-- identifiers that are watched were, or are those of probes, of which no change was read
pub record Watches (old new : List (List ℕ × Slot)) (probes : List Probe) : Type 0 where
  pub kept : (id : List ℕ) → IfSome (slot_at id new) (λ s. (s ≡ unseen) ⊎ (slot_at id old ≡ Some s))
  pub more : (id : List ℕ) → is_some (slot_at id old) ≡ true → is_some (slot_at id new) ≡ true
  pub all : All (λ y. IfSome y.id (λ id. is_some (slot_at id.now new) ≡ true)) probes

abbrev pub WatchesClock : List (List ℕ × Slot) → List (List ℕ × Slot) → Option ClockProbe → Type 0
WatchesClock old new None = Watches old new []
WatchesClock old new (Some c) = Watches old new (c.probe ∷ [])

abbrev pub cells_by : List (Option (List ℕ) × ℕ) → List Told → List Cell
cells_by probes told = map (λ x. cell_by x.1 x.0 told) probes

-- the row of the ports behind what was told
abbrev pub probe_row : Probes → List Told → Row
probe_row x told = record { inputs = map (λ c. c.value) (cells_by (map plain_probe x.inputs.items) told); expected = cells_by (map plain_probe x.outputs.items) told }

abbrev pub probe_goes_over : (Option (List ℕ) × ℕ) × Bool → List Told → List Told → Bool
probe_goes_over c earlier later = is_level (not c.1) (cell_by c.0.1 c.0.0 earlier) && is_level c.1 (cell_by c.0.1 c.0.0 later)

-- rows

abbrev pub HasRows : List Row → Table → Type 0
HasRows rows table = (length rows ≤ 65536) × (plain_table table ≡ table_of_rows rows)

-- they are too many, or memory is wanting
abbrev pub Exceeds : List Row → VcdFault → Type 0
Exceeds rows e = (e ≡ Memory) ⊎ ((e ≡ TooMany Rows 65537) × (65536 < length rows))

-- a table has these rows, or they are too many
unfoldable pub AreKept : List Row → Bool → Table → Type 0
AreKept rows false table = HasRows rows table
AreKept rows true table = 65536 < length rows

-- what was told before the last moment that has begun; nothing before the first
abbrev pub earlier : List Told → List Told
earlier told = if nat_le (moments told) 1 then [] else up_to (moments told - 2) told

-- the slots are those of what was told, as long as values are dumped
unfoldable pub AreCurrent : Bool → List Told → Sampler → Type 0
AreCurrent true told x = Unit {0}
AreCurrent false told x = AreSlots (earlier told) told x.moment x.slots × ((x.moment ≡ moments told - 1) × (x.begun ≡ nat_lt 0 (moments told)))

-- so much was told to a sampler: it has the rows of each moment that has ended
pub record IsTold (top : tops.Top) (d : Declared) (s : ℕ) (told : List Told) (x : Sampler) : Type 0 where
  pub probes : AreProbes top d s x.probes
  pub watched : AreWatched x.slots x.probes
  pub off : x.off ≡ list_any is_off told
  pub current : AreCurrent x.off told x
  pub kept : AreKept (rows_of top d s told (moments (before_off told) - 1)) x.full x.table

-- only the rows and whether they are too many have changed
pub record SameSampling (old new : Sampler) : Type 0 where
  pub probes : new.probes ≡ old.probes
  pub slots : new.slots ≡ old.slots
  pub moment : new.moment ≡ old.moment
  pub begun : new.begun ≡ old.begun
  pub off : new.off ≡ old.off

-- the table of a whole dump for the ports in a scope
pub record IsTable (bytes : List ℕ) (top : tops.Top) (d : Declared) (s : ℕ) (table : Table) : Type 0 where
  pub told : List Told
  pub dump : IsDump bytes d told
  pub rows : HasRows (rows_of top d s told (valued told)) table

-- the text breaks its form, or is a dump whose rows are too many, or memory is wanting
pub data StopsTable (bytes : List ℕ) (top : tops.Top) (d : Declared) (s : ℕ) (e : VcdFault) : Type 0 where
  memory : e ≡ Memory → StopsTable bytes top d s e
  bad : (line : ℕ) → e ≡ BadVcd line → IsBadAt bytes line → StopsTable bytes top d s e
  many : (told : List Told) → IsDump bytes d told → e ≡ TooMany Rows 65537 → 65536 < length (rows_of top d s told (valued told)) → StopsTable bytes top d s e
