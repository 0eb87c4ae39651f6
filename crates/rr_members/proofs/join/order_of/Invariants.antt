use Rattle.std.proofs.Common.{◌≡◌}
use Rattle.rr_rounds.specs.Joined.{flat, of_round}
use Rattle.rr_member.specs.Sharing.{state_of}
use Rattle.rr_members.proofs.join.order_of.Given as goal

abbrev pub invariant-loop-round : goal.invariant-loop-round
invariant-loop-round l = l.order.items ≡ flat l.round (of_round (state_of l.last l.seats))
