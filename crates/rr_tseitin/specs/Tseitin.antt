-- the formula of a circuit (G. S. Tseitin, "On the complexity of derivation in propositional
-- calculus", 1968), with AIGER's variables
use Rattle.std.specs.Prelude.{◌≡◌, ℕ, ◌+◌, ◌==◌, Bool, true, false, if◌then◌else◌, List, [], ◌∷◌, ◌++◌, length, flat_map, All}
use Rattle.rr_circuit.specs.declared.Wire.{Wire}
use Rattle.rr_circuit.specs.declared.Gate.{Gate}
use Rattle.rr_circuit.specs.Values.{OutputNetlist, output_values}
use Rattle.rr_cnf.specs.Clauses.{Literal, Clauses, negated}
use Rattle.rr_cnf.specs.Codes.{literal_of}

-- the variable, not negated
abbrev pub plain : ℕ → Literal
plain v = record { var = v; negative = false }

-- variable v is the conjunction that the gate computes
abbrev pub gate_clauses : ℕ → Gate → List (List Literal)
gate_clauses v g =
    (negated (plain v) ∷ literal_of g.left.0 ∷ [])
    ∷ (negated (plain v) ∷ literal_of g.right.0 ∷ [])
    ∷ (plain v ∷ negated (literal_of g.left.0) ∷ negated (literal_of g.right.0) ∷ [])
    ∷ []

-- each gate's, for the variables from v on
abbrev pub gates_clauses : ℕ → List Gate → List (List Literal)
gates_clauses v [] = []
gates_clauses v (g ∷ gs) = gate_clauses v g ++ gates_clauses (v + 1) gs

-- the output is true: nothing where it is the constant 1, what can't be where it is the constant 0
abbrev pub output_clauses : Wire → List (List Literal)
output_clauses w =
    if w.0 == 1 then [] else (if w.0 == 0 then ([] ∷ []) else ((literal_of w.0 ∷ []) ∷ []))

abbrev pub formula_of : OutputNetlist → Clauses
formula_of c = record {
  vars = c.netlist.inputs + length c.netlist.gates;
  clauses = gates_clauses (c.netlist.inputs + 1) c.netlist.gates ++ flat_map output_clauses c.outputs;
}

-- these inputs make every output true
abbrev pub MakeOutputsTrue : OutputNetlist → (ℕ → Bool) → Type 0
MakeOutputsTrue c env = All (λ b. b ≡ true) (output_values c env)

-- some inputs make every output true
abbrev pub CanBeTrue : OutputNetlist → Type 0
CanBeTrue c = (env : ℕ → Bool) × MakeOutputsTrue c env
