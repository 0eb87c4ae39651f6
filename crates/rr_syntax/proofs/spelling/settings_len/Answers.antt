use Rattle.std.proofs.Common.{arith, sym, map}
use Rattle.rr_syntax.specs.Items.{spell_assignment}
use Rattle.rr_syntax.specs.View.{plain_assignment}
use Rattle.rr_syntax.proofs.ItemLengths.{each_len, comma_len, each_sum, separated_len, size-setting}
use Rattle.rr_syntax.proofs.Sums.{sum_within_at, sum_next_at, sum_full}
use Rattle.rr_syntax.proofs.spelling.settings_len.Goals as goal

pub loop-set-init : goal.loop-set-init
loop-set-init c = sym (each_sum spell_assignment plain_assignment).none

pub expression_len-requires : goal.expression_len-requires
expression_len-requires c = grind (arith, sum_within_at (each_len spell_assignment plain_assignment) (comma_len spell_assignment plain_assignment) (each_sum spell_assignment plain_assignment) c.args.sets.now c.loop-set.set-index c.loop-set-test.true, size-setting)

pub overflow_add-total : goal.overflow_add-total
overflow_add-total c = grind (arith, sum_within_at (each_len spell_assignment plain_assignment) (comma_len spell_assignment plain_assignment) (each_sum spell_assignment plain_assignment) c.args.sets.now c.loop-set.set-index c.loop-set-test.true, size-setting)

pub overflow_add-total-in-loop-set : goal.overflow_add-total-in-loop-set
overflow_add-total-in-loop-set c = grind (arith, sum_within_at (each_len spell_assignment plain_assignment) (comma_len spell_assignment plain_assignment) (each_sum spell_assignment plain_assignment) c.args.sets.now c.loop-set.set-index c.loop-set-test.true, size-setting)

pub loop-set-preserved : goal.loop-set-preserved
loop-set-preserved c = grind (arith, sum_next_at (each_len spell_assignment plain_assignment) (comma_len spell_assignment plain_assignment) (each_sum spell_assignment plain_assignment) c.args.sets.now c.loop-set.set-index c.loop-set-test.true, size-setting)

pub returns : goal.returns
returns c = omega (arith, sum_full (each_len spell_assignment plain_assignment) c.args.sets.now c.loop-set.set-index c.loop-set-test.false, separated_len spell_assignment (map plain_assignment c.args.sets.now))
