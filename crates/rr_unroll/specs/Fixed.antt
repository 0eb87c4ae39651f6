-- Circuits of one cycle whose row of inputs is fixed.
use Rattle.std.specs.Prelude.{◌≡◌, ⊤, ℕ, ◌+◌, List, [], ◌∷◌, ◌++◌, Bool, length, Result, Ok, Vec}
use Rattle.std.specs.Global.{Global}
use Rattle.std.specs.declared.alloc.AllocError.{AllocError}
use Rattle.rr_circuit.specs.Sweeps.{AreUsed}
use Rattle.rr_circuit.specs.Values.{OutputNetlist, output_values, given}
use Rattle.rr_transition.specs.Transitions.{Transition, words}

-- from a choice and a state the circuit gives what the transition gives with this row of inputs, and each of its gates is used
pub record IsFixed (t : Transition) (row : List Bool) (c : OutputNetlist) : Type 0 where
  pub inputs : c.netlist.inputs ≡ t.choice_bits + t.state_bits
  pub outputs : length c.outputs ≡ length t.circuit.outputs
  pub values : (choice state : List Bool) → length choice ≡ t.choice_bits → length state ≡ t.state_bits →
      output_values c (given (choice ++ state)) ≡ output_values t.circuit (given (choice ++ (state ++ row)))
  pub used : AreUsed c

-- a circuit for each row of numbers
abbrev pub AreFixed : Transition → List (List ℕ) → List OutputNetlist → Type 0
AreFixed t [] [] = ⊤
AreFixed t [] (c ∷ cs) = ⊥
AreFixed t (row ∷ rows) [] = ⊥
AreFixed t (row ∷ rows) (c ∷ cs) = IsFixed t (words t.input_widths row) c × AreFixed t rows cs

-- a part that did not want memory
abbrev pub made : Vec OutputNetlist Global → Result (Vec OutputNetlist Global) AllocError
made part = Ok part
