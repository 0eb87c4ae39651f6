use Rattle.std.proofs.Common.{arith}
use Rattle.rr_unfold.proofs.Worth.{word_fits}
use Rattle.rr_unfold.proofs.values.loop_value.Goals as goal

pub overflow_cast-result : goal.overflow_cast-result
overflow_cast-result c = let f = word_fits c.args.value.now.1 c.args.value.now.0 c.extend.result c.to_u128.result c.extend.ensures c.to_u128.ensures in omega (arith, f)
