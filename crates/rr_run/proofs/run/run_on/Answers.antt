use Rattle.rr_flat.specs.View.{plain_flat}
use Rattle.rr_trace.specs.View.{plain_table}
use Rattle.rr_run.proofs.Reading.{reading_fits}
use Rattle.rr_run.proofs.run.run_on.Goals as goal

pub text_of-requires-clause-fit : goal.text_of-requires-clause-fit
text_of-requires-clause-fit c =
    reading_fits c.args.kind (plain_flat c.args.design.now.flat) c.args.design.now.order.clock c.args.design.now.order.rising c.args.table.now (plain_table c.in-Ok.rows) c.in-Ok.ensures
