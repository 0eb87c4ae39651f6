use Rattle.std.proofs.Common.{rules, arith, sym}
use Rattle.rr_syntax.specs.declared.tree.Expr.{the_lemmas}
use Rattle.rr_syntax.specs.View.{plain_list}
use Rattle.rr_syntax.proofs.Lengths.{more_len, part_len, more_sum, parts_len}
use Rattle.rr_syntax.proofs.Sums.{sum_within, sum_next, sum_full}
use Rattle.rr_syntax.proofs.spelling.+expression_lengths.Goals as goal

pub parts_len-loop-part-init : goal.parts_len-loop-part-init
parts_len-loop-part-init t c = sym more_sum.none

pub parts_len-expression_len-requires : goal.parts_len-expression_len-requires
parts_len-expression_len-requires t c = (search (rules, the_lemmas), omega (arith, sum_within more_len part_len more_sum c.args.parts.now c.loop-part.part-index c.part-item.result c.loop-part-test.true c.part-item.is))

pub parts_len-overflow_add-total : goal.parts_len-overflow_add-total
parts_len-overflow_add-total t c = omega (arith, sum_within more_len part_len more_sum c.args.parts.now c.loop-part.part-index c.part-item.result c.loop-part-test.true c.part-item.is)

pub parts_len-overflow_add-total-in-loop-part : goal.parts_len-overflow_add-total-in-loop-part
parts_len-overflow_add-total-in-loop-part t c = omega (arith, sum_within more_len part_len more_sum c.args.parts.now c.loop-part.part-index c.part-item.result c.loop-part-test.true c.part-item.is)

pub parts_len-loop-part-preserved : goal.parts_len-loop-part-preserved
parts_len-loop-part-preserved t c = omega (arith, sum_next more_len part_len more_sum c.args.parts.now c.loop-part.part-index c.part-item.result c.loop-part-test.true c.part-item.is)

pub parts_len-returns : goal.parts_len-returns
parts_len-returns t c =
    omega (arith, sum_full more_len c.args.parts.now c.loop-part.part-index c.loop-part-test.false, parts_len (plain_list c.args.parts.now))
