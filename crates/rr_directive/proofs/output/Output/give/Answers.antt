use Rattle.std.proofs.Common.{arith}
use Rattle.rr_directive.specs.Expand.{Gives}
use Rattle.rr_directive.proofs.Outputs.{shows_more}
use Rattle.rr_directive.proofs.output.Output.give.Goals as goal

pub returns-clause-given : goal.returns-clause-given
returns-clause-given c = λ events h.
    shows_more c.args.self.now _ events (record { step = Gives c.args.byte; origin = c.args.origin }) h c.in_ok-push.ensures.items c.in_ok-push-2.ensures.items (omega (arith, c.if-self-eq0.false))
