use Rattle.rr_member.specs.Seats.{Made}
use Rattle.rr_member.proofs.seat.Seat.advance.Given as goal

abbrev pub invariant-loop-step : goal.invariant-loop-step
invariant-loop-step l = Made l._step l.round l.fn.self l.self
