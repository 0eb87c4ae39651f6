use Rattle.std.proofs.Common.{get_or}
use Rattle.rr_expr.specs.declared.types.Bit.{Bit}
use Rattle.rr_latch.specs.Paths.{assigned, listed}
use Rattle.rr_latch.proofs.Forgetting.{forgot, forgot_none}
use Rattle.rr_latch.proofs.Logs.{assigned_put}
use Rattle.rr_latch.proofs.kept.forget.Goals as goal

pub loop-bit-init : goal.loop-bit-init
unfolding listed
loop-bit-init c = λ b. forgot_none (assigned c.args.table.now b)

pub loop-bit-preserved : goal.loop-bit-preserved
loop-bit-preserved c =
    let d : Bit = record { signal = 0; place = 0 } in
    forgot c.args.bits.now c.loop-bit.bit-index d (assigned c.args.table.now) (assigned c.loop-bit.table) (assigned c.put.new.self) c.loop-bit-test.true c.loop-bit.invariant
    (assigned_put c.loop-bit.table c.put.new.self (get_or c.args.bits.now c.loop-bit.bit-index d) 0 c.in_ok-put.ensures)
