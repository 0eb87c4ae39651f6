use Rattle.rr_run.proofs.rows.read_values.Goals as goal

pub returns-in-Err : goal.returns-in-Err
returns-in-Err c = c.of_table.ensures c.args.design.now.order.clock c.args.table.now c.in-Err.ensures
