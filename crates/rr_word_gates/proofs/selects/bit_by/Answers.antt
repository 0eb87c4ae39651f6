use Rattle.std.proofs.Common.{arith, ap}
use Rattle.std.proofs.lemmas.Int.{ints}
use Rattle.rr_circuit.proofs.Netlists.{wire_values-extends}
use Rattle.rr_bits.specs.Words.{reading}
use Rattle.rr_expr.specs.Selects.{place}
use Rattle.rr_word_gates.proofs.SelectLaws.{Found-none, Found-more, Found-all}
use Rattle.rr_word_gates.proofs.selects.bit_by.Goals as goal

pub loop-i-init : goal.loop-i-init
loop-i-init c = Found-none _ _ _ _ _ c.constant-any.ensures.wire c.constant-any.ensures.value

pub loop-i-preserved : goal.loop-i-preserved
loop-i-preserved c =
    let f = c.loop-i.invariant in
    let t = c.in_ok-here.ensures in
    let u = c.in_ok-bit.ensures in
    let v = c.in_ok-any.ensures in
    Found-more _ _ _ _ _ _ _ _ _ _ _ _ _ _ _ _ f c.loop-i-test.true c.requires.x t.extends u.extends v.extends (omega (arith, ints)) (λ input. ap (λ vs. place c.args.range (reading c.args.signed vs)) (wire_values-extends _ _ c.args.ys.now input f.extends c.requires.y)) t.value u.value v.wire v.value

pub returns-clause-value : goal.returns-clause-value
returns-clause-value c = Found-all _ _ _ _ c.args.below c.args.up _ _ c.loop-i.invariant (omega arith)
