use Rattle.std.proofs.Common.{◌≡◌, take}
use Rattle.rr_syntax.proofs.Lengths.{body_len, cases_len}
use Rattle.rr_syntax.proofs.spelling.+statement_lengths.Given as goal

abbrev pub invariant-arms_len-loop-arm : goal.invariant-arms_len-loop-arm
invariant-arms_len-loop-arm l = l.total ≡ cases_len (take l.arm-index l.arms)

abbrev pub invariant-statements_len-loop-stmt : goal.invariant-statements_len-loop-stmt
invariant-statements_len-loop-stmt l = l.total ≡ body_len (take l.stmt-index l.body)
