use Rattle.std.proofs.Common.{arith}
use Rattle.rr_vcd_text.proofs.Sizing.{Sizes-none, Sizes-item, Sizes-all}
use Rattle.rr_vcd_text.proofs.rooms.Rooms.of.Goals as goal

pub loop-variable-init : goal.loop-variable-init
loop-variable-init c = rw c.new-rooms.ensures (Sizes-none c.args.variables.now)

pub loop-variable-preserved : goal.loop-variable-preserved
loop-variable-preserved c =
    Sizes-item _ _ _ _ _ _ _ c.loop-variable.invariant c.loop-variable-test.true c.in_ok-put.ensures c.narrowed-room.ensures c.find.ensures

pub returns : goal.returns
returns c = Sizes-all _ _ _ c.loop-variable.invariant (omega arith)
