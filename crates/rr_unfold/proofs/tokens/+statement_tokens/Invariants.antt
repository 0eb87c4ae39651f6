use Rattle.std.proofs.Common.{◌≡◌, min, take}
use Rattle.rr_syntax.proofs.Lengths.{body_len, cases_len}
use Rattle.rr_unfold.proofs.tokens.+statement_tokens.Given as goal

abbrev pub invariant-statements_tokens-loop-stmt : goal.invariant-statements_tokens-loop-stmt
invariant-statements_tokens-loop-stmt l = l.total ≡ min (body_len (take l.stmt-index l.body)) 18446744073709551615

abbrev pub invariant-arms_tokens-loop-arm : goal.invariant-arms_tokens-loop-arm
invariant-arms_tokens-loop-arm l = l.total ≡ min (cases_len (take l.arm-index l.arms)) 18446744073709551615
