use Rattle.std.proofs.Common.{arith}
use Rattle.rr_sites_command.specs.View.{source_file}
use Rattle.rr_flat.specs.View.{plain_flat}
use Rattle.rr_flatten.proofs.Limits.{design_stays}
use Rattle.rr_repair.specs.Views.{plain_request}
use Rattle.rr_repair.proofs.Telling.{many_sites, plain_count, read_with}
use Rattle.rr_repair.proofs.judging.judge_sites.Goals as goal

-- src/judging.rt
pub judge_table-requires-clause-given : goal.judge_table-requires-clause-given
judge_table-requires-clause-given g c = λ κs o.
    let k = c.in-Ok.ensures.kept in
    let small = c.requires.text in
    read_with c.args.bytes.now (source_file c.args.file.now) (plain_flat c.args.file.now.design.flat) c.args.file.now.design.order.clock c.in-Ok.list c.requires.small (omega (arith, small)) c.requires.expansion.expansion c.requires.tree.text
    k.0 k.1.0 k.1.1

pub judge_table-requires-clause-fits : goal.judge_table-requires-clause-fits
judge_table-requires-clause-fits g c = λ κs o. record {
  design = design_stays 1048576 _ _ _ c.requires.tree.flat;
  lawful = c.requires.ordered.0;
  ordered = c.requires.ordered.1;
  right = c.in-Ok.ensures.right _ c.requires.ordered;
}

pub returns-then-count-gt-SITE_LIMIT : goal.returns-then-count-gt-SITE_LIMIT
returns-then-count-gt-SITE_LIMIT g c = λ o.
    let k = c.in-Ok.ensures.kept in
    let order = c.args.file.now.design.order in
    many_sites (plain_request c.args.request.now) c.args.bytes.now c.args.table.now (source_file c.args.file.now) c.in-Ok.list
    (record { expansion = c.requires.expansion; flat = plain_flat c.args.file.now.design.flat; clock = order.clock; rising = order.rising; design = c.requires.tree; lawful = c.requires.ordered.0; one_clock = o; listed = k.0; are = k.1.0; kept = k.1.1 })
    _ (plain_count c.sites-count.result.now c.in-Ok.list c.sites-count.ensures.same) c.if-count-gt-SITE_LIMIT.true
