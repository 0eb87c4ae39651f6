use Rattle.std.proofs.Common.{◌≡◌, Err, rules}
use Rattle.rr_vcd.proofs.Ending.{read_some, read_none}
use Rattle.rr_vcd.proofs.read.skip.Goals as goal

pub returns-in_err-next : goal.returns-in_err-next
returns-in_err-next c = λ bytes d now.
    let i = c.loop-changes.invariant bytes d now in
    let q : c.from_residual.result ≡ Err c.in_err-next.field-0.0 = search rules in
    rw q (c.in_err-next.ensures.told bytes d i.0 i.1)

pub loop-changes-preserved : goal.loop-changes-preserved
loop-changes-preserved c = λ bytes d now. let i = c.loop-changes.invariant bytes d now in (_, read_some bytes d i.0 _ _ _ c.in-Some.is (c.in_ok-next.ensures.told bytes d i.0 i.1))

pub returns : goal.returns
returns c = λ bytes d now. let i = c.loop-changes.invariant bytes d now in (i.0, read_none bytes d i.0 _ _ c.in_default.is (c.in_ok-next.ensures.told bytes d i.0 i.1))
