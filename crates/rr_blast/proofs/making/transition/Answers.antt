use Rattle.rr_flat.specs.View.{plain_flat}
use Rattle.rr_blast.proofs.StayLaws.{stays}
use Rattle.rr_blast.proofs.making.transition.Goals as goal

pub returns-clause-lawful : goal.returns-clause-lawful
returns-clause-lawful c = λ j picks fits.
    stays j (plain_flat c.args.flat.now) c.args.order.now.clock c.args.order.now.rising c.args.order.now.steps.items c.args.list.now picks fits
