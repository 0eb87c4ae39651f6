use Rattle.rr_count.proofs.Adders.{Summed-first, Summed-more}
use Rattle.rr_count.proofs.binary.sum.Goals as goal

pub loop-alloc-init : goal.loop-alloc-init
loop-alloc-init c =
    let e = c.in_ok-lowest.ensures in
    rw c.in_ok-push.ensures.items (Summed-first _ _ _ _ _ _ c.new-word.ensures.items c.requires e.extends e.bit e.carries e.width e.value)

pub loop-alloc-preserved : goal.loop-alloc-preserved
loop-alloc-preserved c =
    let e = c.in_ok-bit.ensures in
    let same = c.as_slice.ensures.value in
    rw c.in_ok-push-2.ensures.items (Summed-more _ _ _ _ _ _ _ _ c.loop-alloc.invariant e.extends e.bit e.carries (rw same at e.width) (rw same at e.value))
