use Rattle.std.proofs.Common.{arith}
use Rattle.rr_instance.proofs.firsts.less.Goals as goal

pub returns : goal.returns
returns c = λ count e. let s = c.saturating_sub.ensures in let r = c.ranges.at.fits in omega (arith, e, s, r)
