use Rattle.rr_writers.specs.Tables.{entry}
use Rattle.rr_latch.proofs.Putting.{places_none, places_next, places_done}
use Rattle.rr_latch.proofs.kept.put_piece.Goals as goal

pub loop-place-init : goal.loop-place-init
loop-place-init c = places_none c.args.number c.args.piece.now c.range-low.result.0 c.range-low.result.1 (entry c.args.table.now) c.range-low.ensures.covered

pub loop-place-preserved : goal.loop-place-preserved
loop-place-preserved c =
    places_next c.args.number c.args.piece.now c.range-low.result.0 c.range-low.result.1 c.loop-place.place (entry c.args.table.now) (entry c.loop-place.table) (entry c.put.new.self)
    c.range-low.ensures.covered c.loop-place.auto.place c.loop-place-test.true c.loop-place.invariant c.in_ok-put.ensures

pub returns : goal.returns
returns c = places_done c.args.number c.args.piece.now c.range-low.result.0 c.range-low.result.1 c.loop-place.place (entry c.args.table.now) (entry c.loop-place.table) c.range-low.ensures.covered c.loop-place-test.false c.loop-place.invariant
