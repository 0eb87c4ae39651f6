use Rattle.std.proofs.Common.{◌∙◌, sym, ap, arith}
use Rattle.rr_writers.specs.Marks.{is_free}
use Rattle.rr_writers.specs.Tables.{entry}
use Rattle.rr_writers.proofs.Marking.{places_none, places_next, places_done, places_taken}
use Rattle.rr_writers.proofs.marks.mark_piece.Goals as goal

pub loop-place-init : goal.loop-place-init
loop-place-init c = places_none c.args.again c.args.number c.args.piece.now c.range-low.result.0 c.range-low.result.1 (entry c.args.table.now) c.range-low.ensures.covered

pub loop-place-preserved : goal.loop-place-preserved
loop-place-preserved c =
    places_next c.args.again c.args.number c.args.piece.now c.range-low.result.0 c.range-low.result.1 c.loop-place.place (entry c.args.table.now) (entry c.loop-place.table) _ c.range-low.ensures.covered (omega arith) c.loop-place-test.true
    c.loop-place.invariant (sym (ap (is_free c.args.again c.args.number) c.get.ensures) ∙ (sym c.is_free.ensures ∙ c.if-not-is_free.false)) c.in_ok-put.ensures

pub returns-then-not-is_free-clause-some : goal.returns-then-not-is_free-clause-some
returns-then-not-is_free-clause-some c =
    places_taken c.args.again c.args.number c.args.piece.now c.range-low.result.0 c.range-low.result.1 c.loop-place.place (entry c.args.table.now) (entry c.loop-place.table) c.range-low.ensures.covered (omega arith) c.loop-place-test.true
    c.loop-place.invariant (sym (ap (is_free c.args.again c.args.number) c.get.ensures) ∙ (sym c.is_free.ensures ∙ c.if-not-is_free.true))

pub returns-clause-none : goal.returns-clause-none
returns-clause-none c = places_done c.args.again c.args.number c.args.piece.now c.range-low.result.0 c.range-low.result.1 c.loop-place.place (entry c.args.table.now) (entry c.loop-place.table) c.range-low.ensures.covered c.loop-place-test.false c.loop-place.invariant
