use Rattle.std.proofs.Common.{inr, arith}
use Rattle.rr_flatten.specs.Kept.{plain_walked, modules_of}
use Rattle.rr_flatten.proofs.Walks.{begin_full}
use Rattle.rr_flatten.proofs.walk.begin.Goals as goal

pub returns-then-number-ge256-clause-value : goal.returns-then-number-ge256-clause-value
returns-then-number-ge256-clause-value c = inr (begin_full (modules_of c.args.walk.now) c.args.owner c.args.given.now (plain_walked c.args.walked.now) (omega (arith, c.instances_of-number.ensures, c.if-number-ge256.true)))
