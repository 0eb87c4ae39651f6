use Rattle.rr_repair.specs.Views.{plain_request}
use Rattle.rr_repair.proofs.Telling.{stops_design}
use Rattle.rr_repair.proofs.judging.repair_counted.Goals as goal

-- src/judging.rt
pub returns-in-Err : goal.returns-in-Err
returns-in-Err g c =
    rw c.stop_of.ensures
    (stops_design (plain_request c.args.request.now) c.args.design.now c.args.table.now c.in-Err.fault c.in-Err.ensures.answer)
