-- The cycles of a flat design: the environments that are settled, the state after a clock edge, and runs (IEEE 1364-2005
-- sections 6.1, 9.2.2, 9.9 and 11). They are equations on whole environments; no order of evaluation stands in them.
use Rattle.std.specs.Prelude.{ℕ, ◌<◌, ◌≡◌, max, List, [], ◌∷◌, length, map, flat_map, Bool, true, false, cond, Option, get_or, nat_eq}
use Rattle.rr_bits.specs.Words.{number, word, extend}
use Rattle.rr_expr.specs.declared.types.Bit.{Bit}
use Rattle.rr_expr.specs.declared.types.Shape.{Shape}
pub use Rattle.rr_expr.specs.Memories.{bit_value}
use Rattle.rr_expr.specs.Scopes.{env_of}
use Rattle.rr_expr.specs.Values.{form, value}
use Rattle.rr_flat.specs.Signals.{signal_at}
use Rattle.rr_flat.specs.Inputs.{row_inputs}
use Rattle.rr_flat.specs.Plain.{Side, Written, Whole, Block, Flat}
use Rattle.rr_flat.specs.Writers.{scope_at, driver_at, block_at, signal_bits, Writer, Driven, Clocked, Writes, writes_now}
use Rattle.rr_cycle.specs.Exec.{Environment, executed, Update, updates, applied}

-- Drivers

-- the word that a signal has
abbrev pub signal_value : Flat → ℕ → Environment → List Bool
signal_value flat id env = map (bit_value env) (signal_bits flat id)

unfoldable pub side_shape : Flat → Side → Shape
side_shape flat (Written t i) = form (scope_at flat i) t
side_shape flat (Whole id) = record { width = (signal_at flat.signals id).width; signed = (signal_at flat.signals id).signed }

unfoldable pub side_value : Flat → Side → Environment → ℕ → Bool → List Bool
side_value flat (Written t i) env w signed = value (scope_at flat i) t env w signed
side_value flat (Whole id) env w signed = extend w signed (signal_value flat id env)

-- the right side of a driver, as that of an assignment (sections 6.1.2 and 12.3.9.2)
abbrev pub driver_value : Flat → ℕ → Environment → List Bool
driver_value flat k env =
    side_value flat (driver_at flat k).value env
    (max (side_shape flat (driver_at flat k).target).width (side_shape flat (driver_at flat k).value).width) (side_shape flat (driver_at flat k).value).signed

-- Inputs

abbrev pub head : List ℕ → ℕ
head [] = 0
head (n ∷ ns) = n

abbrev pub tail : List ℕ → List ℕ
tail [] = []
tail (n ∷ ns) = ns

-- the bits that the numbers of a row write in the signals of its inputs; every other bit is 0
unfoldable pub given : List ℕ → List ℕ → Environment
given [] row b = false
given (id ∷ ids) row b = cond (nat_eq id b.signal) (get_or (word 128 (head row)) b.place false) (given ids (tail row) b)

abbrev pub IsInputBit : Flat → Bit → Type 0
IsInputBit flat b = ((k : ℕ) × ((k < length flat.inputs) × (get_or flat.inputs k 0 ≡ b.signal))) × (b.place < (signal_at flat.signals b.signal).width)

-- Values without a row

-- each bit 0
abbrev pub zeros : Environment
zeros b = false

-- each bit of a signal has the value that it begins with (sections 6.2.1 and 9.9.1), any other bit is 0
abbrev pub beginning : Flat → Environment
beginning flat = env_of flat.starts

-- Settled environments

abbrev pub after_block : Flat → Block → Environment → Environment
after_block flat block env = executed (scope_at flat block.scope) block.body env

-- the bits that clocked blocks write have their values in the state, the top inputs those of the row, and the clock, which
-- has none there, is 0; each driver's equation holds; each combinational block leaves what it would write as it is; each
-- other bit has the value that it begins with
pub record Settled (flat : Flat) (clock : Option ℕ) (state : Environment) (row : List ℕ) (env : Environment) : Type 0 where
  pub registers : (k : ℕ) (b : Bit) → Writes flat (Clocked k) b → env b ≡ state b
  pub inputs : (b : Bit) → IsInputBit flat b → env b ≡ given (row_inputs clock flat.inputs) row b
  pub drivers : (k i : ℕ) (b : Bit) → Writes flat (Driven k i) b → env b ≡ get_or (driver_value flat k env) i false
  pub blocks : (k : ℕ) → k < length flat.combinational → after_block flat (block_at flat.combinational k) env ≡ env
  pub others : (b : Bit) → (IsInputBit flat b → ⊥) → ((x : Writer) → Writes flat x b → ⊥) → env b ≡ beginning flat b

-- The clock edge

-- each block begins from the settled environment; a bit that it writes by `=` takes the value that the block leaves in it
pub record AfterBlocks (flat : Flat) (env mid : Environment) : Type 0 where
  pub written : (k : ℕ) (b : Bit) → k < length flat.clocked → writes_now flat (block_at flat.clocked k) b ≡ true → mid b ≡ after_block flat (block_at flat.clocked k) env b
  pub others : (b : Bit) → ((k : ℕ) → k < length flat.clocked → writes_now flat (block_at flat.clocked k) b ≡ false) → mid b ≡ env b

abbrev pub updates_of_block : Flat → Environment → Block → List Update
updates_of_block flat env block = updates (scope_at flat block.scope) block.body env

-- then the updates of all blocks are applied, in the order of the blocks
abbrev pub IsNext : Flat → Environment → Environment → Type 0
IsNext flat env next = (mid : Environment) × (AfterBlocks flat env mid × (next ≡ applied (flat_map (updates_of_block flat env) flat.clocked) mid))

-- Runs

-- the numbers of the outputs, in port order
abbrev pub outputs_of : Flat → Environment → List ℕ
outputs_of flat env = map (λ id. number (signal_value flat id env)) flat.outputs

-- one settled environment per row, from a first state to a last one
pub data Runs (flat : Flat) (clock : Option ℕ) : Environment → List (List ℕ) → List (List ℕ) → Environment → Type 0 where
  ended : {state : Environment} → Runs flat clock state [] [] state
  cycle : {state last : Environment} {row : List ℕ} {rows : List (List ℕ)} {more : List (List ℕ)} (env next : Environment) →
      Settled flat clock state row env → IsNext flat env next → Runs flat clock next rows more last → Runs flat clock state (row ∷ rows) (outputs_of flat env ∷ more) last

-- a run from the starting values
abbrev pub Run : Flat → Option ℕ → List (List ℕ) → List (List ℕ) → Type 0
Run flat clock rows outputs = (last : Environment) × Runs flat clock (beginning flat) rows outputs last
