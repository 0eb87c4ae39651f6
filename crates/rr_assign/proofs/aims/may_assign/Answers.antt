use Rattle.std.proofs.Common.{sym}
use Rattle.rr_flat.specs.View.{plain_flat}
use Rattle.rr_assign.proofs.AimLaw.{words_free}
use Rattle.rr_assign.proofs.aims.may_assign.Goals as goal

pub returns-in-Memory : goal.returns-in-Memory
returns-in-Memory c = rw c.in-Memory.is (sym (words_free (plain_flat c.args.flat.now) c.in-Memory.first c.in-Memory.low c.in-Memory.words c.in-Memory.range c.in-Memory.signed (rw c.in-Memory.is at c.requires)))
