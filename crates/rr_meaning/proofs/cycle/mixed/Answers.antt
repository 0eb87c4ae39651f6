use Rattle.rr_meaning.proofs.Rows.{mixed_bit}
use Rattle.rr_meaning.proofs.cycle.mixed.Goals as goal

pub returns : goal.returns
returns c = λ p. mixed_bit c.args.mask c.args.value c.args.other p c.ranges.mask.fits
