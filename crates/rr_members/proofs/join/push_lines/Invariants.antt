use Rattle.std.proofs.Common.{◌≡◌, ◌++◌}
use Rattle.rr_rounds.specs.Joined.{flat, here}
use Rattle.rr_member.specs.Seats.{member_of}
use Rattle.rr_members.proofs.join.push_lines.Given as goal

abbrev pub invariant-loop-line : goal.invariant-loop-line
invariant-loop-line l = l.order.items ≡ l.fn.order.items ++ flat l.line (here l.round l.place (member_of l.seat))
