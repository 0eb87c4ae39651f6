use Rattle.std.proofs.Common.{◌∙◌, sym, ap, is_some, not}
use Rattle.rr_syntax.specs.View.{plain_edge}
use Rattle.rr_clock.specs.Found.{or_free}
use Rattle.rr_clock.proofs.Finding.{free_skip, free_hit, free_done}
use Rattle.rr_clock.proofs.clock.deciding_edge.Goals as goal

pub loop-edge-preserved : goal.loop-edge-preserved
loop-edge-preserved c =
    free_skip c.args.body.now c.args.edges.now c.loop-edge.edge-index _ c.loop-edge-test.true (ap is_some (sym c.find.ensures) ∙ (c.is_none.ensures ∙ ap not c.if-is_none.false)) ∙ c.loop-edge.invariant

pub returns-then-is_none : goal.returns-then-is_none
returns-then-is_none c =
    ap (or_free (plain_edge c.args.first)) (free_hit c.args.body.now c.args.edges.now c.loop-edge.edge-index _ c.loop-edge-test.true (ap is_some (sym c.find.ensures) ∙ (c.is_none.ensures ∙ ap not c.if-is_none.true)) ∙ c.loop-edge.invariant)

pub returns : goal.returns
returns c = ap (or_free (plain_edge c.args.first)) (free_done c.args.body.now c.args.edges.now c.loop-edge.edge-index c.loop-edge-test.false ∙ c.loop-edge.invariant)
