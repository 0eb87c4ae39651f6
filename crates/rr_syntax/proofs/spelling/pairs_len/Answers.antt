use Rattle.std.proofs.Common.{arith, sym, map}
use Rattle.rr_syntax.specs.Items.{spell_pair}
use Rattle.rr_syntax.specs.View.{plain_pair}
use Rattle.rr_syntax.proofs.ItemLengths.{each_len, comma_len, each_sum, separated_len, size-pair}
use Rattle.rr_syntax.proofs.Sums.{sum_within_at, sum_next_at, sum_full}
use Rattle.rr_syntax.proofs.spelling.pairs_len.Goals as goal

pub loop-pair-init : goal.loop-pair-init
loop-pair-init c = sym (each_sum spell_pair plain_pair).none

pub expression_len-requires : goal.expression_len-requires
expression_len-requires c = grind (arith, sum_within_at (each_len spell_pair plain_pair) (comma_len spell_pair plain_pair) (each_sum spell_pair plain_pair) c.args.pairs.now c.loop-pair.pair-index c.loop-pair-test.true, size-pair)

pub expression_len-requires-in-loop-pair : goal.expression_len-requires-in-loop-pair
expression_len-requires-in-loop-pair c = grind (arith, sum_within_at (each_len spell_pair plain_pair) (comma_len spell_pair plain_pair) (each_sum spell_pair plain_pair) c.args.pairs.now c.loop-pair.pair-index c.loop-pair-test.true, size-pair)

pub overflow_add-total : goal.overflow_add-total
overflow_add-total c = grind (arith, sum_within_at (each_len spell_pair plain_pair) (comma_len spell_pair plain_pair) (each_sum spell_pair plain_pair) c.args.pairs.now c.loop-pair.pair-index c.loop-pair-test.true, size-pair)

pub overflow_add-total-in-loop-pair : goal.overflow_add-total-in-loop-pair
overflow_add-total-in-loop-pair c = grind (arith, sum_within_at (each_len spell_pair plain_pair) (comma_len spell_pair plain_pair) (each_sum spell_pair plain_pair) c.args.pairs.now c.loop-pair.pair-index c.loop-pair-test.true, size-pair)

pub overflow_add-total-in-loop-pair-2 : goal.overflow_add-total-in-loop-pair-2
overflow_add-total-in-loop-pair-2 c = grind (arith, sum_within_at (each_len spell_pair plain_pair) (comma_len spell_pair plain_pair) (each_sum spell_pair plain_pair) c.args.pairs.now c.loop-pair.pair-index c.loop-pair-test.true, size-pair)

pub loop-pair-preserved : goal.loop-pair-preserved
loop-pair-preserved c = grind (arith, sum_next_at (each_len spell_pair plain_pair) (comma_len spell_pair plain_pair) (each_sum spell_pair plain_pair) c.args.pairs.now c.loop-pair.pair-index c.loop-pair-test.true, size-pair)

pub returns : goal.returns
returns c = omega (arith, sum_full (each_len spell_pair plain_pair) c.args.pairs.now c.loop-pair.pair-index c.loop-pair-test.false, separated_len spell_pair (map plain_pair c.args.pairs.now))
