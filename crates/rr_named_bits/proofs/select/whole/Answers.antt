use Rattle.std.proofs.Common.{◌∙◌, length, pos}
use Rattle.rr_named_bits.proofs.Runs.{constant_run, instance_run, word_absent}
use Rattle.rr_named_bits.proofs.select.whole.Goals as goal

pub returns-in-Signal : goal.returns-in-Signal
returns-in-Signal c = rw c.in-Signal.is (c.all_of.ensures.bits c.in-Signal.signed)

pub returns-in-Constant : goal.returns-in-Constant
returns-in-Constant c =
    rw (c.in-Constant.is, c.absent.ensures, c.width.ensures.value)
    (constant_run c.in-Constant.bits c.in-Constant.signed (length c.in-Constant.bits) (length c.in-Constant.bits) (pos 0) (pos 0) (pos 0))

pub returns-in-Memory : goal.returns-in-Memory
returns-in-Memory c = rw c.in-Memory.is (c.absent_word.ensures ∙ word_absent _ _ _ _ _)

pub returns-in-Instance : goal.returns-in-Instance
returns-in-Instance c = rw (c.in-Instance.is, c.absent-in-Instance.ensures) (instance_run 0 0 (pos 0) (pos 0) (pos 0))
