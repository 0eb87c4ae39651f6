use Rattle.rr_sites_command.specs.View.{source_file}
use Rattle.rr_flat.specs.View.{plain_flat}
use Rattle.rr_trace.specs.View.{plain_table}
use Rattle.rr_endings.specs.Views.{plain_answer}
use Rattle.rr_repair.specs.Views.{plain_counts, plain_request}
use Rattle.rr_repair.proofs.Telling.{counted, much_work}
use Rattle.rr_repair.proofs.judging.judge_rows.Goals as goal

-- src/judging.rt
pub returns-then-work-gt-WORK_LIMIT : goal.returns-then-work-gt-WORK_LIMIT
returns-then-work-gt-WORK_LIMIT g c = λ table sited read.
    much_work (plain_request c.args.request.now) c.args.bytes.now table (source_file c.args.file.now) (plain_flat c.args.file.now.design.flat)
    c.args.file.now.design.order.clock c.args.file.now.design.order.rising c.args.list.now sited (plain_table c.args.rows.now) read c.work_of-work.result c.work_of-work.ensures c.if-work-gt-WORK_LIMIT.true

pub returns-in-Ok : goal.returns-in-Ok
returns-in-Ok g c = λ table sited read.
    counted (plain_request c.args.request.now) c.args.bytes.now table (source_file c.args.file.now) (plain_flat c.args.file.now.design.flat)
    c.args.file.now.design.order.clock c.args.file.now.design.order.rising c.args.list.now sited (plain_table c.args.rows.now) read c.work_of-work.result c.work_of-work.ensures (plain_answer c.in-Ok.counted.found) (plain_counts c.in-Ok.counted) c.if-work-gt-WORK_LIMIT.false c.in-Ok.ensures
