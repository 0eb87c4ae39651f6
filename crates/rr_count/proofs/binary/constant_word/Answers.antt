use Rattle.rr_count.proofs.Adders.{Written-none, Written-more}
use Rattle.rr_count.proofs.binary.constant_word.Goals as goal

pub loop-init : goal.loop-init
loop-init c = Written-none _ _ _ c.in_ok-word.ensures.items

pub loop-preserved : goal.loop-preserved
loop-preserved c = rw c.in_ok-push.ensures.items (Written-more _ _ _ _ _ _ c.loop.invariant c.constant.ensures.wire c.constant.ensures.value)
