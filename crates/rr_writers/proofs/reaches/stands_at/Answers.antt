use Rattle.std.proofs.Common.{◌∙◌, ap}
use Rattle.rr_named_bits.specs.Lists.{reaches}
use Rattle.rr_writers.proofs.Reaching.{covered_at}
use Rattle.rr_writers.proofs.reaches.stands_at.Goals as goal

pub returns-then-place-list : goal.returns-then-place-list
returns-then-place-list c = λ t b h. covered_at c.args.list.now c.args.place _ b c.if-place-list.true (ap (λ z. reaches z b) (c.is_same.ensures t) ∙ h)
