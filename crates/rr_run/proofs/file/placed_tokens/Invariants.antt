use Rattle.std.proofs.Common.{take}
use Rattle.rr_run.proofs.Placing.{PlacedOf}
use Rattle.rr_run.proofs.file.placed_tokens.Given as goal

abbrev pub invariant-loop-token : goal.invariant-loop-token
invariant-loop-token l = PlacedOf l.expanded.origins.items l.size (take l.token-index l.tokens) l.placed.items
