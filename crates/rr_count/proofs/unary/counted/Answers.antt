use Rattle.std.proofs.Common.{◌∙◌}
use Rattle.rr_count.proofs.Counters.{Built-more, built_bit}
use Rattle.rr_count.proofs.unary.counted.Goals as goal

pub loop-number-preserved : goal.loop-number-preserved
loop-number-preserved c =
    let e = c.in_ok-count_turn.ensures in
    rw c.in_ok-push.ensures.items (Built-more _ _ _ _ _ _ _ _ _ _ c.loop-number.invariant e.extends e.wire (λ env. e.value env ∙ built_bit _ _ env _ _ _ _ _ _ c.loop-number.invariant.extends c.requires.wires c.requires.x (c.count_at-count.ensures.value env) (c.count_before-before.ensures.value env)))
