use Rattle.rr_vcd.proofs.Slotting.{on_ok}
use Rattle.rr_vcd.proofs.Keeping.{whole_off, whole_none, whole_closed}
use Rattle.rr_vcd.proofs.sampler.Sampler.end.Goals as goal

pub returns-then-self : goal.returns-then-self
returns-then-self c = λ top d s told h. whole_off top d s told c.args.self.now h c.if-self.true

pub returns-then-not-self : goal.returns-then-not-self
returns-then-not-self c = λ top d s told h. whole_none top d s told c.args.self.now h c.if-self.false c.if-not-self.true

pub returns : goal.returns
returns c = λ top d s told h.
    on_ok _ _ c.close.result (whole_closed top d s told c.args.self.now c.close.new.self.full c.close.new.self.table h c.if-self.false) (c.close.ensures.rows top d s told h c.if-self.false c.if-not-self.false)
