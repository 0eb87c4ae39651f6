use Rattle.std.proofs.Common.{arith, sym, map}
use Rattle.rr_syntax.specs.Items.{spell_parameter}
use Rattle.rr_syntax.specs.View.{plain_parameter}
use Rattle.rr_syntax.proofs.ItemLengths.{each_len, comma_len, each_sum, separated_len}
use Rattle.rr_syntax.proofs.Sums.{sum_within_at, sum_next_at, sum_full}
use Rattle.rr_syntax.proofs.spelling.parameters_len.Goals as goal

pub loop-group-init : goal.loop-group-init
loop-group-init c = sym (each_sum spell_parameter plain_parameter).none

pub parameter_len-requires : goal.parameter_len-requires
parameter_len-requires c = grind (arith, sum_within_at (each_len spell_parameter plain_parameter) (comma_len spell_parameter plain_parameter) (each_sum spell_parameter plain_parameter) c.args.params.now c.loop-group.group-index c.loop-group-test.true)

pub overflow_add-total : goal.overflow_add-total
overflow_add-total c = grind (arith, sum_within_at (each_len spell_parameter plain_parameter) (comma_len spell_parameter plain_parameter) (each_sum spell_parameter plain_parameter) c.args.params.now c.loop-group.group-index c.loop-group-test.true)

pub overflow_add-total-in-loop-group : goal.overflow_add-total-in-loop-group
overflow_add-total-in-loop-group c = grind (arith, sum_within_at (each_len spell_parameter plain_parameter) (comma_len spell_parameter plain_parameter) (each_sum spell_parameter plain_parameter) c.args.params.now c.loop-group.group-index c.loop-group-test.true)

pub loop-group-preserved : goal.loop-group-preserved
loop-group-preserved c = grind (arith, sum_next_at (each_len spell_parameter plain_parameter) (comma_len spell_parameter plain_parameter) (each_sum spell_parameter plain_parameter) c.args.params.now c.loop-group.group-index c.loop-group-test.true)

pub returns : goal.returns
returns c = omega (arith, sum_full (each_len spell_parameter plain_parameter) c.args.params.now c.loop-group.group-index c.loop-group-test.false, separated_len spell_parameter (map plain_parameter c.args.params.now))
