use Rattle.std.proofs.Common.{◌≡◌}
use Rattle.rr_rounds.specs.Joined.{flat}
use Rattle.rr_member.specs.Seats.{member_of}
use Rattle.rr_member.specs.Sharing.{seat, shorts_of}
use Rattle.rr_member.proofs.sharing.shorts.Given as goal

abbrev pub invariant-loop-place : goal.invariant-loop-place
invariant-loop-place l = l.shorts.items ≡ flat l.place (λ i. shorts_of l.round i (member_of (seat l.seats i)))
