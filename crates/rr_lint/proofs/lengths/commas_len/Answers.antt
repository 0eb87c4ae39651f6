use Rattle.std.proofs.Common.{sym, arith}
use Rattle.rr_syntax.proofs.Lengths.{more_len, part_len, more_sum}
use Rattle.rr_syntax.proofs.Sums.{sum_within, sum_next, sum_full}
use Rattle.rr_lint.proofs.lengths.commas_len.Goals as goal

pub loop-part-init : goal.loop-part-init
loop-part-init c = record { done = sym more_sum.none }

pub expression_len-requires : goal.expression_len-requires
expression_len-requires c =
    let f = c.requires.fits in
    let w = sum_within more_len part_len more_sum c.args.parts.now c.loop-part.part-index c.part-item.result c.loop-part-test.true c.part-item.is in
    record { fits = omega (arith, f, w) }

pub overflow_add-total : goal.overflow_add-total
overflow_add-total c =
    let f = c.requires.fits in
    let i = c.loop-part.invariant.done in
    let e = c.expression_len.ensures in
    let w = sum_within more_len part_len more_sum c.args.parts.now c.loop-part.part-index c.part-item.result c.loop-part-test.true c.part-item.is in
    omega (arith, f, i, e, w)

pub overflow_add-total-in-loop-part : goal.overflow_add-total-in-loop-part
overflow_add-total-in-loop-part c =
    let f = c.requires.fits in
    let i = c.loop-part.invariant.done in
    let e = c.expression_len.ensures in
    let w = sum_within more_len part_len more_sum c.args.parts.now c.loop-part.part-index c.part-item.result c.loop-part-test.true c.part-item.is in
    omega (arith, f, i, e, w)

pub loop-part-preserved : goal.loop-part-preserved
loop-part-preserved c =
    let i = c.loop-part.invariant.done in
    let e = c.expression_len.ensures in
    let w = sum_next more_len part_len more_sum c.args.parts.now c.loop-part.part-index c.part-item.result c.loop-part-test.true c.part-item.is in
    record { done = omega (arith, i, e, w) }

pub returns : goal.returns
returns c = let i = c.loop-part.invariant.done in let w = sum_full more_len c.args.parts.now c.loop-part.part-index c.loop-part-test.false in omega (arith, i, w)
