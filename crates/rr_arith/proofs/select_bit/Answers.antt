use Rattle.std.proofs.Common.{arith, refl, ◌∙◌, ap}
use Rattle.rr_circuit.specs.Values.{wire_value}
use Rattle.rr_arith.proofs.SelectLaws.{Selected-none, Selected-more, Selected-all}
use Rattle.rr_arith.proofs.select_bit.Goals as goal

pub loop-i-init : goal.loop-i-init
loop-i-init c = Selected-none _ _ _ _ c.requires.x c.requires.some c.requires.width (c.in_ok-extend_from_slice.ensures.items ∙ rw c.in_ok-wires.ensures.items refl)

pub loop-i-preserved : goal.loop-i-preserved
loop-i-preserved c =
    let e = c.in_ok-wires-2.ensures in
    Selected-more _ _ _ _ _ _ _ _ _ _ c.as_slice.ensures.value c.loop-i.invariant (omega arith) c.requires.at e.extends e.wires e.width e.value

pub returns-clause-value : goal.returns-clause-value
returns-clause-value c = λ env. ap (wire_value _ env) c.index.ensures ∙ Selected-all _ _ _ _ _ _ _ c.loop-i.invariant (omega arith) env
