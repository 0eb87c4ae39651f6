use Rattle.std.proofs.Common.{arith, rules}
use Rattle.rr_vcd.proofs.Extending.{Reads-none, Reads-more, Reads-all}
use Rattle.rr_vcd.proofs.cell.wide_cell.Goals as goal

pub loop-digit-init : goal.loop-digit-init
loop-digit-init c = Reads-none c.args.digits.now _ c.extending-known.ensures

pub loop-digit-preserved : goal.loop-digit-preserved
loop-digit-preserved c = Reads-more c.args.digits.now c.loop-digit.digit-index c.loop-digit.value c.loop-digit.known _ _ c.loop-digit.invariant c.loop-digit-test.true
    (search (rules, c.from.ensures, c.is_one.ensures)) (search (rules, c.from-in-loop-digit.ensures, c.is_known.ensures))

pub returns : goal.returns
returns c = Reads-all _ _ _ _ c.loop-digit.invariant (omega arith)
