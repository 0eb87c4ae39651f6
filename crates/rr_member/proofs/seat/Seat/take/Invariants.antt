use Rattle.std.proofs.Common.{take}
use Rattle.rr_member.specs.Sharing.{Took}
use Rattle.rr_member.proofs.seat.Seat.take.Given as goal

abbrev pub invariant-loop-short : goal.invariant-loop-short
invariant-loop-short l = Took l.place (take l.short-index l.shorts) l.fn.self l.self
