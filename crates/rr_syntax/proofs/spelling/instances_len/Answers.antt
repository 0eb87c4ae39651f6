use Rattle.std.proofs.Common.{arith, sym, map}
use Rattle.rr_syntax.specs.Items.{spell_instance}
use Rattle.rr_syntax.specs.View.{plain_instance}
use Rattle.rr_syntax.proofs.ItemLengths.{each_len, comma_len, each_sum, separated_len, size-instance}
use Rattle.rr_syntax.proofs.Sums.{sum_within_at, sum_next_at, sum_full}
use Rattle.rr_syntax.proofs.spelling.instances_len.Goals as goal

pub loop-instance-init : goal.loop-instance-init
loop-instance-init c = sym (each_sum spell_instance plain_instance).none

pub connections_len-requires : goal.connections_len-requires
connections_len-requires c = grind (arith, sum_within_at (each_len spell_instance plain_instance) (comma_len spell_instance plain_instance) (each_sum spell_instance plain_instance) c.args.list.now c.loop-instance.instance-index c.loop-instance-test.true, size-instance)

pub overflow_add-total : goal.overflow_add-total
overflow_add-total c = grind (arith, sum_within_at (each_len spell_instance plain_instance) (comma_len spell_instance plain_instance) (each_sum spell_instance plain_instance) c.args.list.now c.loop-instance.instance-index c.loop-instance-test.true, size-instance)

pub overflow_add-total-in-loop-instance : goal.overflow_add-total-in-loop-instance
overflow_add-total-in-loop-instance c = grind (arith, sum_within_at (each_len spell_instance plain_instance) (comma_len spell_instance plain_instance) (each_sum spell_instance plain_instance) c.args.list.now c.loop-instance.instance-index c.loop-instance-test.true, size-instance)

pub loop-instance-preserved : goal.loop-instance-preserved
loop-instance-preserved c = grind (arith, sum_next_at (each_len spell_instance plain_instance) (comma_len spell_instance plain_instance) (each_sum spell_instance plain_instance) c.args.list.now c.loop-instance.instance-index c.loop-instance-test.true, size-instance)

pub returns : goal.returns
returns c = omega (arith, sum_full (each_len spell_instance plain_instance) c.args.list.now c.loop-instance.instance-index c.loop-instance-test.false, separated_len spell_instance (map plain_instance c.args.list.now))
