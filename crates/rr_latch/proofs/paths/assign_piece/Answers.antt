use Rattle.rr_latch.specs.Paths.{assigned}
use Rattle.rr_writers.proofs.Marking.{below_none}
use Rattle.rr_latch.proofs.Scanning.{assigning_none, assigning_next}
use Rattle.rr_latch.proofs.paths.assign_piece.Goals as goal

pub loop-place-init : goal.loop-place-init
loop-place-init c = assigning_none _ _ _ (below_none c.args.piece.now c.range-low.result.0 c.range-low.result.1 c.range-low.ensures.covered)

pub loop-place-preserved : goal.loop-place-preserved
loop-place-preserved c =
    assigning_next c.args.piece.now c.range-low.result.0 c.range-low.result.1 c.loop-place.place (assigned c.args.path.now.unassigned) (assigned c.loop-place.path.unassigned) (assigned c.assign.new.path.unassigned)
    c.args.path.now.log.items c.loop-place.path.log.items c.assign.new.path.log.items c.range-low.ensures.covered c.loop-place.auto.place c.loop-place-test.true
    c.loop-place.invariant c.in_ok-assign.ensures.set c.in_ok-assign.ensures.log
