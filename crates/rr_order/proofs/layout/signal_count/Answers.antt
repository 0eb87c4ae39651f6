use Rattle.std.proofs.Common.{ap, length, arith}
use Rattle.rr_order.proofs.Lists.{width_count}
use Rattle.rr_order.proofs.layout.signal_count.Goals as goal

pub returns-clause-value : goal.returns-clause-value
returns-clause-value c = omega (arith, ap length c.signal_list.ensures.value, width_count c.args.flat.now)
