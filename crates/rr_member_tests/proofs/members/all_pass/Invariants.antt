use Rattle.std.proofs.Common.{◌≤◌}
use Rattle.rr_member_tests.proofs.members.all_pass.Given as goal

abbrev pub invariant-loop-index : goal.invariant-loop-index
invariant-loop-index l = l.formula.vars ≤ l.work
