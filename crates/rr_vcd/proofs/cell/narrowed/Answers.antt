use Rattle.rr_vcd.proofs.Extending.{narrowed_is}
use Rattle.rr_vcd.proofs.cell.narrowed.Goals as goal

pub returns : goal.returns
returns c = λ change is small. narrowed_is c.args.width c.args.cell change c.if-width-ge128.false is
