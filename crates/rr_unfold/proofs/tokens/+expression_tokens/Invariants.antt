use Rattle.std.proofs.Common.{◌≡◌, ◌+◌, ◌*◌, min, max, take}
use Rattle.rr_syntax.proofs.Lengths.{more_len}
use Rattle.rr_unfold.proofs.tokens.+expression_tokens.Given as goal

abbrev pub decreases-expression_tokens : goal.decreases-expression_tokens
decreases-expression_tokens l = 3 * (goal.size-expression_tokens l)

abbrev pub decreases-two_tokens : goal.decreases-two_tokens
decreases-two_tokens l = 3 * (max (goal.size-two_tokens l) (goal.size-two_tokens (record l { first = l.second }))) + 1

abbrev pub decreases-more_tokens : goal.decreases-more_tokens
decreases-more_tokens l = 3 * (goal.size-more_tokens l) + 1

abbrev pub decreases-list_tokens : goal.decreases-list_tokens
decreases-list_tokens l = 3 * (goal.size-list_tokens l) + 2

abbrev pub invariant-more_tokens-loop-part : goal.invariant-more_tokens-loop-part
invariant-more_tokens-loop-part l = l.total ≡ min (more_len (take l.part-index l.parts)) 18446744073709551615
