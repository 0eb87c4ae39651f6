-- The circuit of a cycle: from a choice, a state and a row of inputs to the next state and the outputs.
use Rattle.std.specs.Prelude.{◌≡◌, ◌+◌, ℕ, List, ◌++◌, length, map, Bool, Option, Ok}
use Rattle.rr_circuit.specs.Values.{OutputNetlist, output_values, given as given_bits}
use Rattle.rr_expr.specs.declared.types.Bit.{Bit}
use Rattle.rr_flat.specs.declared.design.Step.{Step}
use Rattle.rr_flat.specs.Inputs.{row_inputs}
use Rattle.rr_flat.specs.Clocks.{OneClock}
use Rattle.rr_flat.specs.Lawful.{Lawful}
use Rattle.rr_flat.specs.Ordered.{Ordered}
use Rattle.rr_flat.specs.Plain.{Flat}
use Rattle.rr_flatten.specs.Walk.{flat_of}
use Rattle.rr_flat_instance.specs.Flats.{instance_flat}
use Rattle.rr_lawful_instance.specs.Listed.{AreRight}
use Rattle.rr_choice.specs.declared.pick.Pick.{Pick}
use Rattle.rr_choice.specs.Choices.{decode, total_bits}
use Rattle.rr_choice.specs.Sites.{Site}
use Rattle.rr_cycle.specs.Exec.{Environment}
use Rattle.rr_transition.specs.Cycles.{Design, instance_design, output_bits}
use Rattle.rr_cycle.specs.Performing.{next_after}
use Rattle.rr_transition.specs.Placed.{settled_of}
use Rattle.rr_registers.specs.Registers.{registers_of}
use Rattle.rr_blast.specs.Rows.{bits_of_row}

-- what a cycle answers: the registers' next values and then the outputs' bits
abbrev pub answers_of : Flat → List Bit → Environment → List Bool
answers_of flat registers env = map (next_after flat env) registers ++ output_bits flat env

-- the outputs of a circuit are, for every choice, state and row, those of the choice's instance; the registers and the row's
-- inputs are those of the source's design, and each of its instances has the same
unfoldable pub PerformsCycles : Flat → Option ℕ → List Step → List Site → List Bit → OutputNetlist → Type 0
PerformsCycles flat clock steps sites registers circuit =
    (choice state row : List Bool) → length choice ≡ total_bits sites → length state ≡ length registers → length row ≡ length (bits_of_row flat.signals (row_inputs clock flat.inputs)) →
    output_values circuit (given_bits (choice ++ (state ++ row)))
    ≡ answers_of (instance_flat sites (decode sites choice) flat) registers (settled_of (instance_flat sites (decode sites choice) flat) clock steps registers state row)

-- a design with this flat design, which is lawful with its word for the clock and in this order, and with sites as they are
-- listed for it
pub record FitsArguments (j : Design) (flat : Flat) (clock : Option ℕ) (rising : Bool) (steps : List Step) (sites : List Site) : Type 0 where
  pub design : flat_of j.source j.top ≡ Ok flat
  pub lawful : Lawful flat j.word
  pub ordered : Ordered flat j.word clock rising steps
  pub right : AreRight j.source flat j.word sites

-- the bits of a choice, the registers and the bits of a row together
abbrev pub bit_count : Flat → Option ℕ → List Site → ℕ
bit_count flat clock sites = total_bits sites + length (registers_of flat) + length (bits_of_row flat.signals (row_inputs clock flat.inputs))

-- an instance of such a design elaborates without a fault and is lawful, with the design's signals, clock and edge, registers
-- and order of steps
pub record StaysLawful (j : Design) (flat : Flat) (clock : Option ℕ) (rising : Bool) (steps : List Step) (sites : List Site) (picks : List Pick) : Type 0 where
  pub instance : Flat
  pub elaborated : flat_of (instance_design sites picks j).source j.top ≡ Ok instance
  pub lawful : Lawful instance j.word
  pub signals : instance.signals ≡ flat.signals
  pub one_clock : OneClock instance j.word clock rising
  pub registers : registers_of instance ≡ registers_of flat
  pub ordered : Ordered instance j.word clock rising steps
