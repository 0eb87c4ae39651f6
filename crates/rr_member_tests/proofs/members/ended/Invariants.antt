use Rattle.std.proofs.Common.{◌≡◌}
use Rattle.rr_member_tests.proofs.members.ended.Given as goal

abbrev pub invariant-loop : goal.invariant-loop
invariant-loop g l = l.members.formula ≡ l.fn.members.formula
