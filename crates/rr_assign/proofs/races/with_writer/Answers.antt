use Rattle.rr_assign.proofs.Racing.{more_equal, more_apart}
use Rattle.rr_assign.proofs.races.with_writer.Goals as goal

pub returns-then-number-block : goal.returns-then-number-block
returns-then-number-block c k = more_equal c.args.writers c.in-One.number c.args.block k c.in-One.is c.if-number-block.true

pub returns-else-number-block : goal.returns-else-number-block
returns-else-number-block c k = more_apart c.args.writers c.in-One.number c.args.block k c.in-One.is c.if-number-block.false
