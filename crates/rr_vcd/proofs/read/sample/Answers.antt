use Rattle.rr_vcd.specs.View.{IsTable, StopsTable}
use Rattle.rr_vcd.specs.Faults.{of_dump}
use Rattle.rr_vcd.proofs.Ending.{read_some, read_none, stops_text, finish_is, fails}
use Rattle.rr_vcd.proofs.read.sample.Goals as goal

pub returns-in_err-told : goal.returns-in_err-told
returns-in_err-told c = λ bytes top d s now first.
    let i = c.loop-sampler.invariant bytes top d s now first in
    fails (IsTable bytes top d s) (StopsTable bytes top d s) c.from_residual.result (of_dump c.in_err-told.field-0.0) c.from_residual.ensures.1 (stops_text bytes top d s c.in_err-told.field-0.0 (c.in_err-told.ensures.told bytes d i.0 i.1.0))

pub loop-sampler-preserved : goal.loop-sampler-preserved
loop-sampler-preserved c = λ bytes top d s now first.
    let i = c.loop-sampler.invariant bytes top d s now first in
    (_, (read_some bytes d i.0 _ _ _ c.in-Some.is (c.in_ok-told.ensures.told bytes d i.0 i.1.0), c.in_ok-tell.ensures top d s i.0 i.1.1))

pub returns : goal.returns
returns c = λ bytes top d s now first.
    let i = c.loop-sampler.invariant bytes top d s now first in
    finish_is bytes top d s i.0 (read_none bytes d i.0 _ _ c.in_default.is (c.in_ok-told.ensures.told bytes d i.0 i.1.0)) c.finish.result (c.finish.ensures top d s i.0 i.1.1)
