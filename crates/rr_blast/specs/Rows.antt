-- The bits of a row of inputs, and what stands before the first step of a cycle.
use Rattle.std.specs.Prelude.{◌≡◌, ◌≤◌, ℕ, List, [], ◌∷◌, ◌++◌, Option}
use Rattle.rr_expr.specs.declared.types.Bit.{Bit}
use Rattle.rr_flat.specs.Signals.{Signal, signal_at}
use Rattle.rr_flat.specs.Plain.{Flat}
use Rattle.rr_flat_instance.specs.Flats.{instance_flat}
use Rattle.rr_cycle.specs.Exec.{Environment}
use Rattle.rr_cycle.specs.Performing.{any_writes, base}
use Rattle.rr_choice.specs.declared.pick.Pick.{Pick}
use Rattle.rr_choice.specs.Sites.{Site}
use Rattle.rr_transition.specs.Placed.{any_bit}
use Rattle.rr_registers.specs.Registers.{bits_of_signal}

-- the bits of the signals of a row, signal after signal, each lowest first
unfoldable pub bits_of_row : List Signal → List ℕ → List Bit
bits_of_row signals [] = []
bits_of_row signals (id ∷ ids) = bits_of_signal signals id ++ bits_of_row signals ids

-- no signal has more bits than a number of a row
abbrev pub AreNarrow : List Signal → Type 0
AreNarrow signals = (id : ℕ) → (signal_at signals id).width ≤ 128

-- a list of the bits that clocked blocks write
abbrev pub AreRegisters : Flat → List Bit → Type 0
AreRegisters flat registers = (b : Bit) → any_bit registers b ≡ any_writes flat flat.clocked b

-- before the first step an instance has the values of its design
abbrev pub BasesStay : Flat → Option ℕ → List Site → Type 0
BasesStay flat clock sites = (picks : List Pick) (state : Environment) (row : List ℕ) → base (instance_flat sites picks flat) clock state row ≡ base flat clock state row
