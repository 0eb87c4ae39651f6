use Rattle.std.proofs.Common.{◌≡◌, take}
use Rattle.rr_syntax.specs.View.{plain_arms, plain_statements}
use Rattle.rr_latch.specs.Immediate.{immediate_all, immediate_arms}
use Rattle.rr_lint_tree.proofs.statement.+immediate_statements.Given as goal

abbrev pub invariant-immediates-loop-stmt : goal.invariant-immediates-loop-stmt
invariant-immediates-loop-stmt l = plain_statements l.list.items ≡ immediate_all (plain_statements (take l.stmt-index l.body))

abbrev pub invariant-immediate_arms-loop-arm : goal.invariant-immediate_arms-loop-arm
invariant-immediate_arms-loop-arm l = plain_arms l.list.items ≡ immediate_arms (plain_arms (take l.arm-index l.arms))
