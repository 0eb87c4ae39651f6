use Rattle.std.proofs.Common.{arith, sym, map}
use Rattle.rr_syntax.specs.Items.{spell_declarator}
use Rattle.rr_syntax.specs.View.{plain_declarator}
use Rattle.rr_syntax.proofs.ItemLengths.{each_len, comma_len, each_sum, separated_len}
use Rattle.rr_syntax.proofs.Sums.{sum_within_at, sum_next_at, sum_full}
use Rattle.rr_syntax.proofs.spelling.declarators_len.Goals as goal

pub loop-declarator-init : goal.loop-declarator-init
loop-declarator-init c = sym (each_sum spell_declarator plain_declarator).none

pub declarator_len-requires : goal.declarator_len-requires
declarator_len-requires c = grind (arith, sum_within_at (each_len spell_declarator plain_declarator) (comma_len spell_declarator plain_declarator) (each_sum spell_declarator plain_declarator) c.args.names.now c.loop-declarator.declarator-index c.loop-declarator-test.true)

pub overflow_add-total : goal.overflow_add-total
overflow_add-total c = grind (arith, sum_within_at (each_len spell_declarator plain_declarator) (comma_len spell_declarator plain_declarator) (each_sum spell_declarator plain_declarator) c.args.names.now c.loop-declarator.declarator-index c.loop-declarator-test.true)

pub overflow_add-total-in-loop-declarator : goal.overflow_add-total-in-loop-declarator
overflow_add-total-in-loop-declarator c = grind (arith, sum_within_at (each_len spell_declarator plain_declarator) (comma_len spell_declarator plain_declarator) (each_sum spell_declarator plain_declarator) c.args.names.now c.loop-declarator.declarator-index c.loop-declarator-test.true)

pub loop-declarator-preserved : goal.loop-declarator-preserved
loop-declarator-preserved c = grind (arith, sum_next_at (each_len spell_declarator plain_declarator) (comma_len spell_declarator plain_declarator) (each_sum spell_declarator plain_declarator) c.args.names.now c.loop-declarator.declarator-index c.loop-declarator-test.true)

pub returns : goal.returns
returns c = omega (arith, sum_full (each_len spell_declarator plain_declarator) c.args.names.now c.loop-declarator.declarator-index c.loop-declarator-test.false, separated_len spell_declarator (map plain_declarator c.args.names.now))
