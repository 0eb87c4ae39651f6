use Rattle.std.proofs.Common.{arith}
use Rattle.rr_arith.proofs.ProductLaws.{Multiplied-none, Multiplied-more, Multiplied-all}
use Rattle.rr_arith.proofs.mul.Goals as goal

pub loop-i-init : goal.loop-i-init
loop-i-init c =
    let e = c.in_ok-product.ensures in
    Multiplied-none _ _ _ _ _ _ e.extends e.wires e.width c.constant-zero.ensures.value e.value

pub loop-i-preserved : goal.loop-i-preserved
loop-i-preserved c =
    let e = c.in_ok-row.ensures in
    let f = c.in_ok-product-2.ensures in
    Multiplied-more _ _ _ _ _ _ _ _ _ _ _ _ _ c.as_slice.ensures.value c.as_slice-in-loop-i.ensures.value c.loop-i.invariant (omega arith) c.requires.x c.requires.y e.extends f.extends f.wires f.width e.value f.value

pub returns-clause-value : goal.returns-clause-value
returns-clause-value c = Multiplied-all _ _ _ _ _ _ c.loop-i.invariant (omega arith)
