use Rattle.std.specs.List.{AllWithin}
use Rattle.rr_syntax.specs.Places.{Holds}
use Rattle.rr_syntax.proofs.places.token_at.Given as goal

abbrev pub invariant-loop-token : goal.invariant-loop-token
invariant-loop-token l = AllWithin (λ u. ¬ (Holds u.span l.offset)) l.tokens 0 l.token-index
