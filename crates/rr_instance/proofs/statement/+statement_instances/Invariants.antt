use Rattle.std.proofs.Common.{◌≡◌, take}
use Rattle.rr_syntax.specs.View.{plain_arms, plain_statements}
use Rattle.rr_instance.specs.Instances.{instance_arms, instance_statements}
use Rattle.rr_instance.proofs.statement.+statement_instances.Given as goal

abbrev pub invariant-statements-loop-stmt : goal.invariant-statements-loop-stmt
invariant-statements-loop-stmt l = plain_statements l.list.items ≡ instance_statements l.sites l.choice.picks.items (plain_statements (take l.stmt-index l.body))

abbrev pub invariant-case_arms-loop-arm : goal.invariant-case_arms-loop-arm
invariant-case_arms-loop-arm l = plain_arms l.list.items ≡ instance_arms l.sites l.choice.picks.items (plain_arms (take l.arm-index l.arms))
