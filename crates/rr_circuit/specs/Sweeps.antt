-- the gates of a circuit that its outputs need
use Rattle.std.specs.Prelude.{◌≡◌, ◌⊎◌, ℕ, ◌+◌, ◌*◌, ◌/◌, ◌%◌, ◌<◌, ◌≤◌, Bool, true, List, length, fold, take, slice_index_or, false, All, Contains}
use Rattle.rr_circuit.specs.declared.Wire.{Wire}
use Rattle.rr_circuit.specs.declared.Gate.{Gate}
use Rattle.rr_circuit.specs.Values.{Netlist, OutputNetlist, IsNetlist, with_gate, input_values}

-- the variable of a literal
abbrev pub variable : Wire → ℕ
variable w = w.0 / 2

-- an output or a gate names the variable
abbrev pub IsUsed : OutputNetlist → ℕ → Type 0
IsUsed c v = ((w : Wire) × Contains c.outputs w × (variable w ≡ v))
    ⊎ ((g : Gate) × Contains c.netlist.gates g × ((variable g.left ≡ v) ⊎ (variable g.right ≡ v)))

-- each gate is used. Operands are earlier gates, so uses lead from each gate to an output
abbrev pub AreUsed : OutputNetlist → Type 0
AreUsed c = (k : ℕ) → k < length c.netlist.gates → IsUsed c (1 + c.netlist.inputs + k)

-- ---- marks of variables

abbrev pub gate_at : Netlist → ℕ → Gate
gate_at n k = slice_index_or n.gates k (record { left = record { 0 = 0 }; right = record { 0 = 0 } })

abbrev pub is_marked : List Bool → ℕ → Type 0
is_marked marks v = slice_index_or marks v false ≡ true

-- the gate is marked, and has the variable as an operand
abbrev pub IsUser : Netlist → List Bool → ℕ → ℕ → Type 0
IsUser n marks v j = (j < length n.gates) × is_marked marks (1 + n.inputs + j)
    × ((variable (gate_at n j).left ≡ v) ⊎ (variable (gate_at n j).right ≡ v))

-- what is needed is marked, as far as outputs and the gates from the k-th on tell, and no other gate
pub record AreMarked (c : OutputNetlist) (marks : List Bool) (k : ℕ) : Type 0 where
  pub size : length marks ≡ 1 + c.netlist.inputs + length c.netlist.gates
  pub own : (v : ℕ) → v ≤ c.netlist.inputs → is_marked marks v
  pub outputs : All (λ w. is_marked marks (variable w)) c.outputs
  pub operands : (j : ℕ) → k ≤ j → j < length c.netlist.gates → is_marked marks (1 + c.netlist.inputs + j) →
      is_marked marks (variable (gate_at c.netlist j).left) × is_marked marks (variable (gate_at c.netlist j).right)
  pub used : (v : ℕ) → c.netlist.inputs < v → is_marked marks v →
      ((w : Wire) × Contains c.outputs w × (variable w ≡ v)) ⊎ ((j : ℕ) × (k ≤ j) × IsUser c.netlist marks v j)

-- ---- the gates that stay, with their variables

-- a literal over other variables
abbrev pub moved_wire : List ℕ → Wire → Wire
moved_wire variables w = record { 0 = 2 * slice_index_or variables (variable w) 0 + w.0 % 2 }

abbrev pub moved_gate : List ℕ → Gate → Gate
moved_gate variables g = record { left = moved_wire variables g.left; right = moved_wire variables g.right }

-- the variables' values, after k gates
abbrev pub values_upto : Netlist → ℕ → (ℕ → Bool) → List Bool
values_upto n k env = fold with_gate (input_values n.inputs env) (take k n.gates)

-- of the first k gates the marked ones are kept, in order, over the kept variables, of which the
-- list gives the new number for each old one
pub record AreKept (n : Netlist) (marks : List Bool) (gates : List Gate) (variables : List ℕ) (k : ℕ) : Type 0 where
  pub size : length variables ≡ 1 + n.inputs + k
  pub count : length gates ≤ k
  pub lawful : IsNetlist n.inputs gates
  pub below : (v : ℕ) → slice_index_or variables v 0 < 1 + n.inputs + length gates
  pub above : (v : ℕ) → 1 ≤ v → v < 1 + n.inputs + k → is_marked marks v → 1 ≤ slice_index_or variables v 0
  pub value : (env : ℕ → Bool) (v : ℕ) → v < 1 + n.inputs + k → is_marked marks v →
      slice_index_or (fold with_gate (input_values n.inputs env) gates) (slice_index_or variables v 0) false ≡ slice_index_or (values_upto n k env) v false
  pub from : (i : ℕ) → i < length gates → (j : ℕ) × (j < k) × is_marked marks (1 + n.inputs + j) × (slice_index_or variables (1 + n.inputs + j) 0 ≡ 1 + n.inputs + i)
  pub to : (j : ℕ) → j < k → is_marked marks (1 + n.inputs + j) → Contains gates (moved_gate variables (gate_at n j))
