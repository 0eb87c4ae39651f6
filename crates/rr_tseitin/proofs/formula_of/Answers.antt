use Rattle.std.proofs.Common.{arith, refl, ap, sym, subst, ◌∙◌, ◌++◌, ◌^◌, ◌≤◌, ◌↔◌, ◌≡◌, ◌+◌, length, ◌<◌, get_or}
use Rattle.std.proofs.lemmas.List.Elements.{All-get_or}
use Rattle.rr_circuit.specs.Values.{IsNetlist, IsWire, AreWires}
use Rattle.std.specs.Prelude.{flat_map}
use Rattle.std.proofs.lemmas.List.{take_all}
use Rattle.rr_cnf.specs.Clauses.{IsSatisfiable, Satisfies}
use Rattle.rr_tseitin.specs.Tseitin.{formula_of as tseitin, CanBeTrue, gates_clauses, output_clauses}
use Rattle.rr_cnf.specs.Partial.{Determined}
use Rattle.rr_tseitin.proofs.DeterminedLaw.{determined}
use Rattle.rr_tseitin.proofs.TseitinLaws.{gates_clauses-more, model_true, wire_below, satisfiable-iff}
use Rattle.rr_tseitin.proofs.formula_of.Goals as goal

pub loop-gate-preserved : goal.loop-gate-preserved
loop-gate-preserved c =
    let gs = c.args.circuit.now.netlist.gates in
    let k : c.loop-gate.gate-index < length gs = rw (← c.loop-gate.invariant.gates) c.loop-gate-test.true in
    let v = c.loop-gate.invariant.var in
    let m = gates_clauses-more (c.args.circuit.now.netlist.inputs + 1) gs c.loop-gate.gate-index (c.loop-gate.var + 1) (record { left = record { 0 = 0 }; right = record { 0 = 0 } }) k (omega arith) in
    record {
      formula = rw (c.in_ok-push_gate.ensures, c.loop-gate.invariant.formula, m, c.loop-gate.invariant.gates) refl;
      gates = c.loop-gate.invariant.gates;
      var = omega arith;
    }

pub push_output-requires-clause-in_range : goal.push_output-requires-clause-in_range
push_output-requires-clause-in_range c =
    let v = c.args.circuit.now in
    let lawful : AreWires v.netlist v.outputs = rw (← c.circuit.view_is) c.circuit.invariant.2 in
    let k : c.loop-wire.wire-index < length v.outputs = rw (← c.loop-wire.invariant.outputs) c.loop-wire-test.true in
    rw (c.loop-wire.invariant.formula, c.loop-wire.invariant.outputs) (wire_below v.netlist _ (All-get_or (IsWire v.netlist) v.outputs _ _ k lawful))

pub push_output-requires-clause-fits : goal.push_output-requires-clause-fits
push_output-requires-clause-fits c =
    let v = c.args.circuit.now in
    let lawful : AreWires v.netlist v.outputs = rw (← c.circuit.view_is) c.circuit.invariant.2 in
    let few : v.netlist.inputs + length v.netlist.gates < 2 ^ 62 = rw (← c.circuit.view_is) c.circuit.invariant.1 in
    let k : c.loop-wire.wire-index < length v.outputs = rw (← c.loop-wire.invariant.outputs) c.loop-wire-test.true in
    let below = wire_below v.netlist (get_or v.outputs c.loop-wire.wire-index (record { 0 = 0 })) (All-get_or (IsWire v.netlist) v.outputs _ _ k lawful) in
    rw c.loop-wire.invariant.outputs (omega arith)

pub returns-clause-satisfiable : goal.returns-clause-satisfiable
returns-clause-satisfiable c =
    let v = c.args.circuit.now in
    let netlist : IsNetlist v.netlist.inputs v.netlist.gates = rw (← c.circuit.view_is) c.circuit.invariant.0 in
    let outputs : AreWires v.netlist v.outputs = rw (← c.circuit.view_is) c.circuit.invariant.2 in
    let past : length v.outputs ≤ c.loop-wire.wire-index = rw (← c.loop-wire.invariant.outputs) c.loop-wire-test.false in
    let whole = take_all c.loop-wire.wire-index v.outputs past in
    let clauses : c.loop-wire.formula.clauses ≡ (tseitin v).clauses = ap (λ f. f.clauses) c.loop-wire.invariant.formula ∙ ap (λ ws. gates_clauses (v.netlist.inputs + 1) v.netlist.gates ++ flat_map output_clauses ws) whole in
    subst (λ cs. IsSatisfiable cs ↔ CanBeTrue v) (sym clauses) (satisfiable-iff v netlist outputs)

pub returns-clause-determined : goal.returns-clause-determined
returns-clause-determined c =
    let v = c.args.circuit.now in
    let netlist : IsNetlist v.netlist.inputs v.netlist.gates = rw (← c.circuit.view_is) c.circuit.invariant.0 in
    let past : length v.outputs ≤ c.loop-wire.wire-index = rw (← c.loop-wire.invariant.outputs) c.loop-wire-test.false in
    let whole = take_all c.loop-wire.wire-index v.outputs past in
    let formula : c.loop-wire.formula ≡ tseitin v = c.loop-wire.invariant.formula ∙ ap (λ ws. record { vars = v.netlist.inputs + length v.netlist.gates; clauses = gates_clauses (v.netlist.inputs + 1) v.netlist.gates ++ flat_map output_clauses ws }) whole in
    subst (λ f. Determined f v.netlist.inputs) (sym formula) (determined v netlist)

pub returns-clause-inputs : goal.returns-clause-inputs
returns-clause-inputs c a s =
    let v = c.args.circuit.now in
    let netlist : IsNetlist v.netlist.inputs v.netlist.gates = rw (← c.circuit.view_is) c.circuit.invariant.0 in
    let outputs : AreWires v.netlist v.outputs = rw (← c.circuit.view_is) c.circuit.invariant.2 in
    let past : length v.outputs ≤ c.loop-wire.wire-index = rw (← c.loop-wire.invariant.outputs) c.loop-wire-test.false in
    let whole = take_all c.loop-wire.wire-index v.outputs past in
    let clauses : c.loop-wire.formula.clauses ≡ (tseitin v).clauses = ap (λ f. f.clauses) c.loop-wire.invariant.formula ∙ ap (λ ws. gates_clauses (v.netlist.inputs + 1) v.netlist.gates ++ flat_map output_clauses ws) whole in
    model_true v netlist outputs a (subst (λ cs. Satisfies a cs) clauses s)
