use Rattle.std.proofs.Common.{subst}
use Rattle.rr_derive.specs.Lrat.{IsBad, IsRat}
use Rattle.rr_derive.specs.Reading.{StopsAt}
use Rattle.rr_derive.proofs.LratText.{Reached-all, Reached-bad, Reached-more, empty_of, some_of}
use Rattle.rr_derive.proofs.read.read_lines.Goals as goal

pub returns-in-Err-Bad-clause-cause : goal.returns-in-Err-Bad-clause-cause
returns-in-Err-Bad-clause-cause c =
    Reached-bad c.args.clauses c.args.vars c.args.bytes.now c.loop-text.journal c.loop-text.last c.loop-text.count c.loop-text.text.now c.loop-text.invariant (IsBad c.args.vars)
    (some_of _ _ c.is_empty.ensures c.loop-text-test.true)
    (subst (StopsAt c.loop-text.last c.args.vars c.loop-text.text.now) c.in-Err-Bad.field-0-is c.in-Err-Bad.ensures.err)

pub returns-in-Err-Rat-clause-cause : goal.returns-in-Err-Rat-clause-cause
returns-in-Err-Rat-clause-cause c =
    Reached-bad c.args.clauses c.args.vars c.args.bytes.now c.loop-text.journal c.loop-text.last c.loop-text.count c.loop-text.text.now c.loop-text.invariant (λ last. IsRat)
    (some_of _ _ c.is_empty.ensures c.loop-text-test.true)
    (subst (StopsAt c.loop-text.last c.args.vars c.loop-text.text.now) c.in-Err-Rat.field-0-is c.in-Err-Rat.ensures.err)

pub loop-text-preserved : goal.loop-text-preserved
loop-text-preserved c = Reached-more _ _ _ _ _ _ _ _ _ _ c.loop-text.invariant c.in-Ok.step c.in-Ok.ensures.ok c.in_ok-last-in-Ok.ensures

pub returns-clause-proof : goal.returns-clause-proof
returns-clause-proof c = Reached-all _ _ _ _ _ _ _ c.loop-text.invariant (empty_of _ _ c.is_empty.ensures c.loop-text-test.false)
