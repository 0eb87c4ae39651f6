use Rattle.std.proofs.Common.{◌∙◌, ◌<◌, length, arith}
use Rattle.rr_endings.specs.Views.{report_text}
use Rattle.rr_effects.proofs.Reading.{next_stops, next_given}
use Rattle.rr_effects.proofs.reads.fetch.Goals as goal

-- the next read gives none
pub returns-in-Err-clause-answer : goal.returns-in-Err-clause-answer
returns-in-Err-clause-answer g c =
    let within : c.loop-number.number < length c.args.reads.now = omega arith in
    next_stops (g.H.Shelf.told c.args.shelf.now) c.args.reads.now c.loop-number.number c.loop-number.files.items _ within c.loop-number.invariant.0
    (g.H.Shelf.told c.loop-number.shelf) (g.H.Shelf.faults c.args.shelf.now) (g.H.Shelf.faults c.loop-number.shelf) (g.H.Shelf.faults c.fetch_one.new.shelf) c.in-Err.report.ending (report_text c.in-Err.report)
    c.loop-number.invariant.1 c.loop-number.invariant.2 c.in-Err.ensures.answer

-- .. or its file
pub loop-number-preserved : goal.loop-number-preserved
loop-number-preserved g c =
    let within : c.loop-number.number < length c.args.reads.now = omega arith in (
      next_given (g.H.Shelf.told c.args.shelf.now) c.args.reads.now c.loop-number.number c.loop-number.files.items _ within c.loop-number.invariant.0
          (g.H.Shelf.told c.loop-number.shelf) c.in-Ok.bytes c.push.new.self.items c.loop-number.invariant.1 c.in-Ok.ensures.answer.0 c.in-Ok-push.ensures.items,
      c.in-Ok.ensures.same ∙ c.loop-number.invariant.1,
      c.in-Ok.ensures.answer.1 ∙ c.loop-number.invariant.2,
    )
