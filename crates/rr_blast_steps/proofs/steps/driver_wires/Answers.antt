use Rattle.rr_flat.specs.View.{plain_flat, plain_side}
use Rattle.rr_signal_wires.specs.Words.{carried}
use Rattle.rr_blast_terms.specs.Choosing.{picks_of}
use Rattle.rr_blast_steps.proofs.SideLaws.{driver_is}
use Rattle.rr_blast_steps.proofs.steps.driver_wires.Goals as goal

pub returns-clause-value : goal.returns-clause-value
returns-clause-value c = λ env.
    driver_is (plain_flat c.args.flat.now) c.args.choice.now.sites.now (picks_of c.args.b.now env c.args.choice.now) (plain_side c.args.driver.now.target) (plain_side c.args.driver.now.value) (carried c.args.b.now env c.args.words.now) _ _ _ _
    c.max.ensures c.side_shape-width.ensures.value c.side_shape-own.ensures.value (c.in_ok-bits.ensures.value env)
