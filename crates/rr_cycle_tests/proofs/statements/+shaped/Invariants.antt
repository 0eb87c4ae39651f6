use Rattle.std.proofs.Common.{◌≡◌, [], take}
use Rattle.rr_syntax.specs.View.{plain_arms, plain_statements}
use Rattle.rr_flat.specs.Shapes.{arms_faults, statements_faults}
use Rattle.rr_cycle_tests.proofs.statements.+shaped.Given as goal

abbrev pub invariant-are_shaped-loop-stmt : goal.invariant-are_shaped-loop-stmt
invariant-are_shaped-loop-stmt l = statements_faults l.scope (plain_statements (take l.stmt-index l.body)) ≡ []

abbrev pub invariant-arms_are_shaped-loop-arm : goal.invariant-arms_are_shaped-loop-arm
invariant-arms_are_shaped-loop-arm l = arms_faults l.scope (plain_arms (take l.arm-index l.arms)) ≡ []
