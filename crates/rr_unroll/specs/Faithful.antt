-- Circuits that ask whether the instance of a choice runs as a table expects, and at which cost.
use Rattle.std.specs.Prelude.{◌≡◌, ℕ, List, [], ◌∷◌, ◌++◌, Bool, length, nat_le, Option}
use Rattle.rr_circuit.specs.Values.{OutputNetlist, output_values, given}
use Rattle.rr_flat.specs.Plain.{Flat}
use Rattle.rr_cycle.specs.Cycles.{Run}
use Rattle.rr_choice.specs.Choices.{cost, decode, total_bits}
use Rattle.rr_choice.specs.Sites.{Site}
use Rattle.rr_trace.specs.Tables.{Table}
use Rattle.rr_transition.specs.Cycles.{Design, IsLawfulFlat, instance_design, widths_of}
use Rattle.rr_unroll.specs.Questions.{agreed}

-- for each known expected bit of a table, row by row, output by output in port order, lowest bit first, whether the run of
-- the design has it
pub record IsJudged (j : Design) (table : Table) (bits : List Bool) : Type 0 where
  pub flat : Flat
  pub clock : Option ℕ
  pub design : IsLawfulFlat j flat clock
  pub outputs : List (List ℕ)
  pub run : Run flat clock table.inputs outputs
  pub verdicts : bits ≡ agreed (widths_of flat flat.outputs) table.expected outputs

-- the outputs are these of the instance of the choice that the inputs write, and then whether the choice's cost is at most
-- the bound
pub record IsAnswer (circuit : OutputNetlist) (j : Design) (sites : List Site) (table : Table) (bound : ℕ) (bits : List Bool) : Type 0 where
  pub verdicts : List Bool
  pub judged : IsJudged (instance_design sites (decode sites bits) j) table verdicts
  pub outputs : output_values circuit (given bits) ≡ verdicts ++ nat_le (cost (decode sites bits)) bound ∷ []

-- for every list of input bits
pub record Faithful (circuit : OutputNetlist) (j : Design) (sites : List Site) (table : Table) (bound : ℕ) : Type 0 where
  pub inputs : circuit.netlist.inputs ≡ total_bits sites
  pub answers : (bits : List Bool) → length bits ≡ total_bits sites → IsAnswer circuit j sites table bound bits
