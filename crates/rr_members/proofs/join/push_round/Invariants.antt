use Rattle.std.proofs.Common.{◌≡◌, ◌++◌}
use Rattle.rr_rounds.specs.Joined.{flat, lines_in}
use Rattle.rr_member.specs.Seats.{member_of}
use Rattle.rr_member.specs.Sharing.{seat}
use Rattle.rr_members.proofs.join.push_round.Given as goal

abbrev pub invariant-loop-place : goal.invariant-loop-place
invariant-loop-place l = l.order.items ≡ l.fn.order.items ++ flat l.place (λ i. lines_in l.round i (member_of (seat l.seats i)))
