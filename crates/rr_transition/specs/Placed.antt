-- States and rows as lists of bits, and cycles as the steps of an order that are performed one after the other: the two
-- ways in which the code of one cycle shows what a transition stands for. The laws of cycles lead from them to `Cycle`.
use Rattle.std.specs.Prelude.{◌≡◌, ℕ, ◌≤◌, ◌++◌, List, [], ◌∷◌, Bool, true, false, length, map, take, drop, ◌||◌, Option, Ok}
use Rattle.std.specs.List.{sum}
use Rattle.rr_bits.specs.Words.{number}
use Rattle.rr_circuit.specs.Values.{output_values, given as given_bits}
use Rattle.rr_expr.specs.declared.types.Bit.{Bit}
use Rattle.rr_flat.specs.Signals.{Signal, signal_at}
use Rattle.rr_flat.specs.declared.design.Step.{Step}
use Rattle.rr_flat.specs.Lawful.{Lawful}
use Rattle.rr_flat.specs.Ordered.{Ordered}
use Rattle.rr_flat.specs.Plain.{Flat}
use Rattle.rr_flat.specs.Targets.{same_bit}
use Rattle.rr_flatten.specs.Walk.{flat_of}
use Rattle.rr_flat.specs.Writers.{Clocked, Writes}
use Rattle.rr_flat.specs.Inputs.{row_inputs}
use Rattle.rr_cycle.specs.Cycles.{IsNext, Settled, beginning, zeros}
use Rattle.rr_cycle.specs.Exec.{Environment, first, put, rest}
use Rattle.rr_cycle.specs.Performing.{next_after, settled_by}
use Rattle.rr_transition.specs.Cycles.{Design, output_bits, widths_of}
use Rattle.rr_transition.specs.Transitions.{Transition}

-- these bits have these values, of two for one bit the first; each other bit has that of an environment
unfoldable pub placed : List Bit → List Bool → Environment → Environment
placed [] vs e = e
placed (b ∷ bs) vs e = put b (first vs) (placed bs (rest vs) e)

unfoldable pub any_bit : List Bit → Bit → Bool
any_bit [] b = false
any_bit (c ∷ cs) b = same_bit c b || any_bit cs b

-- the numbers that the bits of a row write, one for each of its signals
unfoldable pub row_of : List Signal → List ℕ → List Bool → List ℕ
row_of signals [] vs = []
row_of signals (id ∷ ids) vs = number (take (signal_at signals id).width vs) ∷ row_of signals ids (drop (signal_at signals id).width vs)

-- the transition gives the cycle of a flat design from the bits of a state on the bits of a row
pub record IsCycleOfBits (flat : Flat) (clock : Option ℕ) (t : Transition) (registers : List Bit) (choice state row : List Bool) : Type 0 where
  pub env : Environment
  pub next : Environment
  pub settled : Settled flat clock (placed registers state zeros) (row_of flat.signals (row_inputs clock flat.inputs) row) env
  pub edge : IsNext flat env next
  pub bits : output_values t.circuit (given_bits (choice ++ (state ++ row))) ≡ map next registers ++ output_bits flat env

-- each of them; the registers are all bits that clocked blocks write
pub record HasCyclesOfBits (flat : Flat) (clock : Option ℕ) (t : Transition) (registers : List Bit) (choice : List Bool) : Type 0 where
  pub widths : t.input_widths ≡ widths_of flat (row_inputs clock flat.inputs)
  pub narrow : (id : ℕ) → (signal_at flat.signals id).width ≤ 128
  pub written : (k : ℕ) (b : Bit) → Writes flat (Clocked k) b → any_bit registers b ≡ true
  pub cycles : (state row : List Bool) → length state ≡ length registers → length row ≡ sum t.input_widths → IsCycleOfBits flat clock t registers choice state row

-- the environment that the steps of an order make of the bits of a state and of a row
abbrev pub settled_of : Flat → Option ℕ → List Step → List Bit → List Bool → List Bool → Environment
settled_of flat clock steps registers state row = settled_by flat clock steps (placed registers state zeros) (row_of flat.signals (row_inputs clock flat.inputs) row)

-- with these bits of a choice the transition gives what the steps and then the clocked blocks of a design make, which is
-- lawful and in order; a run starts in what the registers begin with
pub record PerformsSteps (j : Design) (clock : Option ℕ) (rising : Bool) (steps : List Step) (t : Transition) (registers : List Bit) (choice : List Bool) : Type 0 where
  pub flat : Flat
  pub design : flat_of j.source j.top ≡ Ok flat
  pub lawful : Lawful flat j.word
  pub ordered : Ordered flat j.word clock rising steps
  pub input_widths : t.input_widths ≡ widths_of flat (row_inputs clock flat.inputs)
  pub output_widths : t.output_widths ≡ widths_of flat flat.outputs
  pub start : t.start ≡ map (beginning flat) registers
  pub narrow : (id : ℕ) → (signal_at flat.signals id).width ≤ 128
  pub written : (k : ℕ) (b : Bit) → Writes flat (Clocked k) b → any_bit registers b ≡ true
  pub bits : (state row : List Bool) → length state ≡ length registers → length row ≡ sum t.input_widths →
      output_values t.circuit (given_bits (choice ++ (state ++ row)))
      ≡ map (next_after flat (settled_of flat clock steps registers state row)) registers ++ output_bits flat (settled_of flat clock steps registers state row)
