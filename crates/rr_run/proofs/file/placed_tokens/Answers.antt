use Rattle.rr_run.proofs.Placing.{placed_full, placed_more}
use Rattle.rr_run.proofs.file.placed_tokens.Goals as goal

pub loop-token-preserved : goal.loop-token-preserved
loop-token-preserved c =
    rw c.in_ok-push.ensures.items
    (placed_more c.args.expanded.now.origins.items c.args.size c.args.tokens.now c.loop-token.placed.items c.loop-token.token-index _ c.placed_token.result c.loop-token-test.true c.placed_token.ensures c.loop-token.invariant)

pub returns : goal.returns
returns c = placed_full c.args.expanded.now.origins.items c.args.size c.args.tokens.now c.loop-token.placed.items c.loop-token.token-index c.loop-token-test.false c.loop-token.invariant
