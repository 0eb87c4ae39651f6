-- The circuit of one cycle (an AND-inverter circuit as in AIGER) as plain data, and what it gives for a choice, a state and a
-- row of inputs.
use Rattle.std.specs.Prelude.{◌≡◌, ℕ, ◌+◌, ◌^◌, ◌<◌, List, [], ◌∷◌, ◌++◌, Bool, false, length, map, get_or, drop, All}
use Rattle.std.specs.List.{sum}
use Rattle.rr_bits.specs.Words.{word}
use Rattle.rr_circuit.specs.Values.{OutputNetlist, output_values, given}

-- its inputs are a choice, a state and a row of inputs; its outputs are the next state and the outputs of the design. The
-- switches are their places among the bits of a choice; the widths are those of a row's inputs and of the outputs. A run
-- starts in the state `start`.
pub record Transition : Type 0 where
  pub circuit : OutputNetlist
  pub choice_bits : ℕ
  pub state_bits : ℕ
  pub input_bits : ℕ
  pub start : List Bool
  pub switches : List ℕ
  pub input_widths : List ℕ
  pub output_widths : List ℕ

-- what the type of a transition keeps
pub record IsTransition (t : Transition) : Type 0 where
  pub inputs : t.circuit.netlist.inputs ≡ t.choice_bits + t.state_bits + t.input_bits
  pub outputs : length t.circuit.outputs ≡ t.state_bits + sum t.output_widths
  pub few : t.choice_bits + t.state_bits + t.input_bits < 2 ^ 32
  pub input_bits : t.input_bits ≡ sum t.input_widths
  pub start : length t.start ≡ t.state_bits
  pub switches : All (λ k. k < t.choice_bits) t.switches

-- the words of numbers, each in its width, one after the other, lowest bits first; a number that is not there is 0
unfoldable pub words : List ℕ → List ℕ → List Bool
words [] numbers = []
words (w ∷ ws) numbers = word w (get_or numbers 0 0) ++ words ws (drop 1 numbers)

-- the next state's bits and then the outputs' bits
abbrev pub cycle_bits : Transition → List Bool → List Bool → List ℕ → List Bool
cycle_bits t choice state row = output_values t.circuit (given (choice ++ (state ++ words t.input_widths row)))

-- the switches that a list of a choice's bits has
abbrev pub switched : List ℕ → List Bool → List Bool
switched places choice = map (λ k. get_or choice k false) places
