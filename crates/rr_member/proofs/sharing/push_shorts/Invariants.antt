use Rattle.std.proofs.Common.{◌≡◌, ◌++◌}
use Rattle.rr_rounds.specs.Joined.{flat}
use Rattle.rr_member.specs.Seats.{member_of}
use Rattle.rr_member.specs.Sharing.{short_at}
use Rattle.rr_member.proofs.sharing.push_shorts.Given as goal

abbrev pub invariant-loop-line : goal.invariant-loop-line
invariant-loop-line l = l.shorts.items ≡ l.fn.shorts.items ++ flat l.line (short_at l.round l.place (member_of l.seat))
