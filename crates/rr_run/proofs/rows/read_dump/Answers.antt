use Rattle.rr_flat.specs.View.{plain_flat}
use Rattle.rr_run.proofs.rows.read_dump.Goals as goal

pub returns-in-Err : goal.returns-in-Err
returns-in-Err c = c.of_dump.ensures (plain_flat c.args.design.now.flat) c.args.design.now.order.clock c.args.design.now.order.rising c.args.table.now c.in-Err.ensures
