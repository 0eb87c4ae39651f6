use Rattle.std.proofs.Common.{arith, length}
use Rattle.rr_syntax.specs.Expressions.{spell_more}
use Rattle.rr_syntax.specs.View.{plain_list}
use Rattle.rr_syntax.proofs.Lengths.{more_len, part_len, more_sum, parts_len}
use Rattle.rr_syntax.proofs.Sums.{sum_next, sum_full}
use Rattle.rr_unfold.proofs.tokens.+expression_tokens.Goals as goal

pub more_tokens-loop-part-init : goal.more_tokens-loop-part-init
more_tokens-loop-part-init t c = let z = more_sum.none in omega (arith, z)

pub more_tokens-loop-part-preserved : goal.more_tokens-loop-part-preserved
more_tokens-loop-part-preserved t c = omega (arith, sum_next more_len part_len more_sum c.args.parts.now c.loop-part.part-index c.part-item.result c.loop-part-test.true c.part-item.is)

pub more_tokens-returns : goal.more_tokens-returns
more_tokens-returns t c = omega (arith, sum_full more_len c.args.parts.now c.loop-part.part-index c.loop-part-test.false)

pub list_tokens-returns : goal.list_tokens-returns
list_tokens-returns t c =
    let b = c.bracketed.ensures (length (spell_more (plain_list c.args.parts.now))) c.more_tokens.ensures in
    let p = parts_len (plain_list c.args.parts.now) in
    omega (arith, b, p)
