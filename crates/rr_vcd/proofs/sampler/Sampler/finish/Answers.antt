use Rattle.std.proofs.Common.{inr, refl}
use Rattle.rr_vcd.proofs.Keeping.{kept_many, kept_rows}
use Rattle.rr_vcd.proofs.sampler.Sampler.finish.Goals as goal

pub returns-then-sampler : goal.returns-then-sampler
returns-then-sampler c = λ top d s told h. inr (refl, kept_many _ _ _ c.if-sampler.true (c.in_ok-end.ensures top d s told h))

pub returns : goal.returns
returns c = λ top d s told h. kept_rows _ _ _ c.if-sampler.false (c.in_ok-end.ensures top d s told h)
