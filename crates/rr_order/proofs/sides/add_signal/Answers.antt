use Rattle.rr_order.proofs.Sided.{whole_named}
use Rattle.rr_order.proofs.sides.add_signal.Goals as goal

pub returns : goal.returns
returns c = rw c.in_ok-push.ensures.items (whole_named c.args.flat.now c.args.id c.args.reaches.now.items c.whole.result c.whole.ensures.value)
