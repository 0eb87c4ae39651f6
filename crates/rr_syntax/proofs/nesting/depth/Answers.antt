use Rattle.std.proofs.Common.{arith, sym}
use Rattle.std.proofs.lemmas.Bool.Decides.{nat_tests}
use Rattle.rr_syntax.specs.Items.{height_module}
use Rattle.rr_syntax.specs.View.{plain_module}
use Rattle.rr_syntax.proofs.Depths.{all_height, own_height, all_greatest, height-module, deep-source}
use Rattle.rr_syntax.proofs.Sums.{greatest_within_at, greatest_next_at, sum_full}
use Rattle.rr_syntax.proofs.nesting.depth.Goals as goal

pub loop-module-init : goal.loop-module-init
loop-module-init c = sym (all_greatest height_module plain_module).none

pub module_depth-requires : goal.module_depth-requires
module_depth-requires c = grind (arith, greatest_within_at (all_height height_module plain_module) (own_height height_module plain_module) (all_greatest height_module plain_module) c.args.source.now.modules.now c.loop-module.module-index c.loop-module-test.true, height-module, deep-source c.args.source.now)

pub overflow_add-module_depth : goal.overflow_add-module_depth
overflow_add-module_depth c = grind (arith, greatest_within_at (all_height height_module plain_module) (own_height height_module plain_module) (all_greatest height_module plain_module) c.args.source.now.modules.now c.loop-module.module-index c.loop-module-test.true, height-module, deep-source c.args.source.now)

pub loop-module-preserved : goal.loop-module-preserved
loop-module-preserved c = grind (arith, nat_tests, greatest_next_at (all_height height_module plain_module) (own_height height_module plain_module) (all_greatest height_module plain_module) c.args.source.now.modules.now c.loop-module.module-index c.loop-module-test.true, height-module)

pub returns : goal.returns
returns c = omega (arith, deep-source c.args.source.now, sum_full (all_height height_module plain_module) c.args.source.now.modules.now c.loop-module.module-index c.loop-module-test.false)
