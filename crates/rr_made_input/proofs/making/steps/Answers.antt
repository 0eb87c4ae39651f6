use Rattle.std.proofs.Common.{ap, ◌+◌}
use Rattle.rr_made_input.proofs.DrawLaws.{Stepped-more, Stepped-none}
use Rattle.rr_made_input.proofs.making.steps.Goals as goal

pub loop-i-init : goal.loop-i-init
loop-i-init c = rw c.new-steps.ensures.items (Stepped-none c.args.draws.now.state)

pub loop-i-preserved : goal.loop-i-preserved
loop-i-preserved c = rw c.in_ok-push.ensures.items (Stepped-more c.args.draws.now.state c.loop-i.i c.loop-i.draws.state c.draw-step.new.self.state _ c.loop-i.steps.items c.loop-i.invariant c.draw-step.ensures.state (ap (λ n. 1 + n) c.draw-step.ensures.value))
