use Rattle.std.proofs.Common.{◌∙◌, sym, arith}
use Rattle.rr_count.proofs.Adders.{Added-more, Added-all}
use Rattle.rr_count.proofs.binary.halved.Goals as goal

pub loop-i-preserved : goal.loop-i-preserved
loop-i-preserved c =
    let e = c.in_ok-sum.ensures in
    let room = c.loop-i.invariant.room in
    let width = c.in_ok-queue.ensures.width in
    let test = c.loop-i-test.true in
    rw (c.in_ok-push.ensures.items, c.in_ok-push-2.ensures.items) (Added-more _ _ _ _ _ _ _ _ _ _ _ _ c.loop-i.invariant (omega arith) c.index.ensures c.index-in-loop-i.ensures c.index-in-loop-i-2.ensures e.extends e.sum e.carry e.value)

pub returns-clause-value : goal.returns-clause-value
returns-clause-value c = λ env. sym (c.in_ok-queue.ensures.value env) ∙ Added-all _ _ _ _ _ _ _ _ c.loop-i.invariant (omega arith) c.in_ok-queue.ensures.width c.index-2.ensures env
