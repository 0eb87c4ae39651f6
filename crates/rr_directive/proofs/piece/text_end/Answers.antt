use Rattle.std.proofs.Common.{◌∙◌, sym}
use Rattle.rr_directive.proofs.Facts.{text_goes}
use Rattle.rr_directive.proofs.piece.text_end.Goals as goal

pub loop-at-preserved : goal.loop-at-preserved
loop-at-preserved c = record {
  within = c.further-at.ensures.within;
  same = c.loop-at.invariant.same ∙ text_goes c.loop-at.at c.further-at.result c.args.bytes.now c.loop-at-test.true (sym c.stops.ensures ∙ c.if-stops.false) c.further-at.ensures.place;
}
