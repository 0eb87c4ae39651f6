use Rattle.std.proofs.Common.{◌≡◌, take}
use Rattle.rr_syntax.proofs.Depths.{body_height, cases_height}
use Rattle.rr_syntax.proofs.nesting.+statement_depths.Given as goal

abbrev pub invariant-arms_height-loop-arm : goal.invariant-arms_height-loop-arm
invariant-arms_height-loop-arm l = l.deepest ≡ cases_height (take l.arm-index l.arms)

abbrev pub invariant-statements_height-loop-stmt : goal.invariant-statements_height-loop-stmt
invariant-statements_height-loop-stmt l = l.deepest ≡ body_height (take l.stmt-index l.body)
