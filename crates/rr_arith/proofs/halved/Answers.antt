use Rattle.std.proofs.Common.{arith, rules, ◌∙◌}
use Rattle.rr_arith.proofs.ShiftLaws.{Filled-none, Filled-more, turned}
use Rattle.rr_arith.proofs.SelectLaws.{Halved-all}
use Rattle.rr_arith.proofs.halved.Goals as goal

pub loop-i-init : goal.loop-i-init
loop-i-init c = Filled-none _ _ _ (search rules)

pub loop-i-preserved : goal.loop-i-preserved
loop-i-preserved c =
    let e = c.in_ok-wire.ensures in
    rw c.in_ok-push.ensures.items (Filled-more _ _ _ _ _ _ _ c.loop-i.invariant e.extends e.wire (λ env. e.value env ∙ turned _ _ env _ _ _ _ _ _ _ c.loop-i.invariant.extends c.requires.x c.requires.test c.constant-none.ensures.wire (omega arith) c.place_above-odd.ensures))

pub returns-clause-value : goal.returns-clause-value
returns-clause-value c = Halved-all _ _ _ _ _ _ _ c.loop-i.invariant (omega arith) c.constant-none.ensures.value
