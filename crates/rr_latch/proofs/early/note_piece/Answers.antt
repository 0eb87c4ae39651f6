use Rattle.rr_latch.proofs.Noting.{piece_start, piece_next, piece_done}
use Rattle.rr_latch.proofs.early.note_piece.Goals as goal

pub loop-place-init : goal.loop-place-init
loop-place-init c = piece_start c.args.table.now c.args.piece.now c.range-low.result.0 c.range-low.result.1 c.args.early.now c.range-low.ensures.covered

pub loop-place-preserved : goal.loop-place-preserved
loop-place-preserved c =
    piece_next c.args.table.now c.args.piece.now c.range-low.result.0 c.range-low.result.1 c.loop-place.place c.args.early.now c.loop-place.early c.note.new.early
    c.range-low.ensures.covered c.loop-place.auto.place c.loop-place-test.true c.loop-place.invariant c.in_ok-note.ensures

pub returns : goal.returns
returns c =
    piece_done c.args.table.now c.args.piece.now c.range-low.result.0 c.range-low.result.1 c.loop-place.place c.args.early.now c.loop-place.early
    c.range-low.ensures.covered c.loop-place-test.false c.loop-place.invariant
