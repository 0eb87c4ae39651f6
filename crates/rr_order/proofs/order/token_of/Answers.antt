use Rattle.rr_order.proofs.Telling.{driver_number, wire_number, block_number}
use Rattle.rr_order.proofs.order.token_of.Goals as goal

pub driver_at-requires : goal.driver_at-requires
driver_at-requires c = driver_number c.args.flat.now c.in-Driver.number (rw c.in-Driver.is at c.requires)

pub driver_at-requires-in-Wire : goal.driver_at-requires-in-Wire
driver_at-requires-in-Wire c = wire_number c.args.flat.now c.in-Wire.driver _ (rw c.in-Wire.is at c.requires)

pub combinational_at-requires : goal.combinational_at-requires
combinational_at-requires c = block_number c.args.flat.now c.in-Block.number (rw c.in-Block.is at c.requires)
