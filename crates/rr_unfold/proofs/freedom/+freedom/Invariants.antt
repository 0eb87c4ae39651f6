use Rattle.std.proofs.Common.{◌≡◌, drop}
use Rattle.rr_syntax.specs.View.{plain_arms, plain_statements}
use Rattle.rr_flat.specs.Loops.{all_loop_free, arms_loop_free}
use Rattle.rr_unfold.proofs.freedom.+freedom.Given as goal

abbrev pub invariant-all_loop_free-loop-stmt : goal.invariant-all_loop_free-loop-stmt
invariant-all_loop_free-loop-stmt l = all_loop_free (plain_statements (drop l.stmt-index l.body)) ≡ all_loop_free (plain_statements l.body)

abbrev pub invariant-arms_loop_free-loop-arm : goal.invariant-arms_loop_free-loop-arm
invariant-arms_loop_free-loop-arm l = arms_loop_free (plain_arms (drop l.arm-index l.arms)) ≡ arms_loop_free (plain_arms l.arms)
