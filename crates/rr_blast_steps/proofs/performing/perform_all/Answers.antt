use Rattle.rr_circuit.proofs.Netlists.{Extends-trans}
use Rattle.rr_flat.specs.View.{plain_flat}
use Rattle.rr_flat_instance.specs.Flats.{instance_flat}
use Rattle.rr_signal_wires.specs.Words.{carried}
use Rattle.rr_blast_terms.specs.Choosing.{picks_of}
use Rattle.rr_meaning.proofs.Walking.{steps_done}
use Rattle.rr_blast_steps.proofs.StepLaws.{steps_more}
use Rattle.rr_blast_terms.proofs.ChoiceLaws.{picks-extends}
use Rattle.rr_blast_steps.proofs.performing.perform_all.Goals as goal

pub loop-step-preserved : goal.loop-step-preserved
loop-step-preserved c =
    let h = c.loop-step.invariant in
    let x = c.in_ok-perform.ensures in
    record {
      extends = Extends-trans _ _ _ h.extends x.extends;
      machine = x.machine;
      env = λ env.
          steps_more c.args.choice.now.sites.now (picks_of c.args.b.now env c.args.choice.now) (picks_of c.loop-step.b env c.args.choice.now) (plain_flat c.args.flat.now) c.args.steps.now c.loop-step.step-index _ (carried c.loop-step.b env c.loop-step.machine.now.items) _ _ c.loop-step-test.true
          (picks-extends c.args.b.now c.loop-step.b env c.args.choice.now h.extends c.requires.choice) (x.env env) (h.env env);
    }

pub returns-clause-env : goal.returns-clause-env
returns-clause-env c = λ env.
    steps_done (instance_flat c.args.choice.now.sites.now (picks_of c.args.b.now env c.args.choice.now) (plain_flat c.args.flat.now)) c.args.steps.now c.loop-step.step-index _ _ c.loop-step-test.false (c.loop-step.invariant.env env)
