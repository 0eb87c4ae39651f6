use Rattle.rr_choice.proofs.BitsRead.{wide_cut}
use Rattle.rr_choice.proofs.pick.cut.Goals as goal

pub returns-else-width-lt128 : goal.returns-else-width-lt128
returns-else-width-lt128 c = wide_cut c.args.value c.args.width c.ranges.value.fits c.if-width-lt128.false
