use Rattle.std.proofs.Common.{◌∙◌, ap}
use Rattle.rr_flat.specs.Targets.{is_memory}
use Rattle.rr_named_bits.proofs.Naming.{whole_covers}
use Rattle.rr_named_bits.proofs.Reaching.{reach_all}
use Rattle.rr_named_bits.proofs.select.reach_of.Goals as goal

pub returns-in-Memory : goal.returns-in-Memory
returns-in-Memory c = λ b. rw (c.in-Memory.is, c.all_of.ensures.value) (reach_all c.in-Memory.first c.in-Memory.low c.in-Memory.words c.in-Memory.range c.in-Memory.signed b)

pub returns-in-Signal : goal.returns-in-Signal
returns-in-Signal c = λ b. c.one.ensures.bits b ∙ whole_covers c.whole.result c.args.entity.now (ap is_memory c.in-Signal.is) c.whole.ensures b

pub returns-in-Constant : goal.returns-in-Constant
returns-in-Constant c = λ b. c.one-in-Constant.ensures.bits b ∙ whole_covers c.whole-in-Constant.result c.args.entity.now (ap is_memory c.in-Constant.is) c.whole-in-Constant.ensures b

pub returns-in-Instance : goal.returns-in-Instance
returns-in-Instance c = λ b. c.one-in-Instance.ensures.bits b ∙ whole_covers c.whole-in-Instance.result c.args.entity.now (ap is_memory c.in-Instance.is) c.whole-in-Instance.ensures b
