use Rattle.std.proofs.Common.{◌≡◌, ◌+◌, ◌++◌, ◌∷◌, [], ◌∙◌, map, sym, ap, arith}
use Rattle.std.specs.List.{range_with_len}
use Rattle.std.proofs.lemmas.List.FromFn.{map-range_with_len_more}
use Rattle.rr_circuit.specs.Values.{OutputNetlist}
use Rattle.rr_circuit.proofs.Keeping.{AreKept-none}
use Rattle.rr_circuit.proofs.sweep.kept_inputs.Goals as goal

pub loop-variable-preserved : goal.loop-variable-preserved
loop-variable-preserved c = c.in_ok-push.ensures.items ∙ ap (λ vs. vs ++ c.loop-variable.variable ∷ []) c.loop-variable.invariant ∙ sym (map-range_with_len_more (λ v. v) 0 c.loop-variable.variable _ (omega arith))

pub returns : goal.returns
returns c =
    let inputs : c.circuit.inside.inputs ≡ c.args.circuit.now.netlist.inputs = ap (λ (m : OutputNetlist). m.netlist.inputs) c.circuit.view_is in
    let all : c.loop-variable.variable ≡ 1 + c.args.circuit.now.netlist.inputs = omega arith in
    λ marks. AreKept-none _ marks _ _ c.new.ensures.items (c.loop-variable.invariant ∙ ap (λ n. map (λ v. v) (range_with_len 0 n)) all)
