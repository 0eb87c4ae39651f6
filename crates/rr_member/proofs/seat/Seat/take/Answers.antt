use Rattle.std.proofs.Common.{◌+◌, ◌<◌, length, sym, subst, take, arith}
use Rattle.rr_member.specs.Sharing.{Took}
use Rattle.rr_member.proofs.Sitting.{Took-skip, Took-take}
use Rattle.rr_member.proofs.seat.Seat.take.Goals.{then-short-place+in_ok-take_one, else-short-place}
use Rattle.rr_member.proofs.seat.Seat.take.Goals as goal

pub loop-short-preserved : goal.loop-short-preserved
loop-short-preserved c =
    let i = c.loop-short.short-index in
    let x = c.short-item.result in
    let inside : i < length c.args.shorts.now = omega arith in
    elim c.if-short-place.branch [
      | then-short-place+in_ok-take_one w ↦ subst (Took c.args.place (take (i + 1) c.args.shorts.now) c.args.self.now) (sym w.self-is)
          (Took-take c.args.place c.args.shorts.now i x inside c.short-item.is c.args.self.now c.loop-short.self c.loop-short.invariant w.take_one.new.self w.if-short-place.true w.in_ok-take_one.ensures)
      | else-short-place w ↦ subst (Took c.args.place (take (i + 1) c.args.shorts.now) c.args.self.now) (sym w.self-is)
          (Took-skip c.args.place c.args.shorts.now i x inside c.short-item.is c.args.self.now c.loop-short.self c.loop-short.invariant w.if-short-place.false)
    ]
