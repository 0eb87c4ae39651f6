use Rattle.std.proofs.Common.{arith, sym}
use Rattle.rr_syntax.specs.Items.{spell_module}
use Rattle.rr_syntax.specs.View.{plain_module}
use Rattle.rr_syntax.proofs.ItemLengths.{all_len, own_len, all_sum, source_len}
use Rattle.rr_syntax.proofs.Sums.{sum_within_at, sum_next_at, sum_full}
use Rattle.rr_syntax.proofs.spelling.spell_len.Goals as goal

pub loop-module-init : goal.loop-module-init
loop-module-init c = sym (all_sum spell_module plain_module).none

pub module_len-total-requires : goal.module_len-total-requires
module_len-total-requires c =
    grind (arith, source_len c.args.source.now, sum_within_at (all_len spell_module plain_module) (own_len spell_module plain_module) (all_sum spell_module plain_module) c.args.source.now.modules.now c.loop-module.module-index c.loop-module-test.true)

pub overflow_add-total : goal.overflow_add-total
overflow_add-total c =
    grind (arith, source_len c.args.source.now, sum_within_at (all_len spell_module plain_module) (own_len spell_module plain_module) (all_sum spell_module plain_module) c.args.source.now.modules.now c.loop-module.module-index c.loop-module-test.true)

pub loop-module-preserved : goal.loop-module-preserved
loop-module-preserved c =
    grind (arith, sum_next_at (all_len spell_module plain_module) (own_len spell_module plain_module) (all_sum spell_module plain_module) c.args.source.now.modules.now c.loop-module.module-index c.loop-module-test.true)

pub returns : goal.returns
returns c =
    omega (arith, source_len c.args.source.now, sum_full (all_len spell_module plain_module) c.args.source.now.modules.now c.loop-module.module-index c.loop-module-test.false)
