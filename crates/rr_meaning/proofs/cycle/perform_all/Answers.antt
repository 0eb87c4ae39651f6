use Rattle.std.proofs.Common.{◌∙◌, get_or, refl}
use Rattle.rr_expr.specs.Scopes.{env_of}
use Rattle.rr_flat.specs.View.{plain_flat}
use Rattle.rr_meaning.proofs.Walking.{steps_done, steps_more}
use Rattle.rr_meaning.proofs.cycle.perform_all.Goals as goal

pub loop-step-preserved : goal.loop-step-preserved
loop-step-preserved c = record {
  env = steps_more (plain_flat c.args.flat.now) c.args.steps.now c.loop-step.step-index (get_or c.args.steps.now c.loop-step.step-index _) _ (env_of c.loop-step.machine.env.values.items) _ _ c.loop-step-test.true refl c.loop-step.invariant.env c.in_ok-perform.ensures.env;
  count = c.in_ok-perform.ensures.count;
  fits = c.in_ok-perform.ensures.fits;
  none = c.in_ok-perform.ensures.none ∙ c.loop-step.invariant.none;
}

pub returns-clause-env : goal.returns-clause-env
returns-clause-env c = steps_done (plain_flat c.args.flat.now) c.args.steps.now c.loop-step.step-index (env_of c.loop-step.machine.env.values.items) _ c.loop-step-test.false c.loop-step.invariant.env
