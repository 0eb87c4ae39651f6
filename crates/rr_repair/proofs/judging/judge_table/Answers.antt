use Rattle.rr_sites_command.specs.View.{source_file}
use Rattle.rr_flat.specs.View.{plain_flat}
use Rattle.rr_repair.specs.Views.{plain_request}
use Rattle.rr_repair.proofs.Telling.{stops_table}
use Rattle.rr_repair.proofs.judging.judge_table.Goals as goal

-- src/judging.rt
pub returns-in-Err : goal.returns-in-Err
returns-in-Err g c = λ sited.
    rw c.stop_of.ensures
    (stops_table (plain_request c.args.request.now) c.args.bytes.now c.args.table.now (source_file c.args.file.now) (plain_flat c.args.file.now.design.flat)
    c.args.file.now.design.order.clock c.args.file.now.design.order.rising c.args.list.now sited c.in-Err.fault c.in-Err.ensures)
