use Rattle.std.proofs.Common.{◌≡◌, ◌∙◌, ap}
use Rattle.rr_flat.specs.declared.design.Step.TheVariants as design_step
use Rattle.rr_flat.specs.Ordered.{IsStep}
use Rattle.rr_flat.specs.View.{plain_flat, plain_side}
use Rattle.rr_flat.specs.Writers.{SideReads, driven, driven_by, driver_at}
use Rattle.rr_order.specs.Nodes.{IsWritten, IsWrittenBy, StepsTo, widths}
use Rattle.rr_order.proofs.Growing.{written_inside, driver_step, driver_is, value_is, grown_side, grown_distinct, whole_row, whole_written, whole_added}
use Rattle.rr_order.proofs.steps.add_whole.Goals as goal

pub add_step-requires : goal.add_step-requires
add_step-requires c =
    let i : IsStep (plain_flat c.args.flat.now) (design_step.Driver c.args.number) = driver_step c.args.flat.now c.args.number c.requires.number c.requires.plain in
    let e : c.as_slice.result.now ≡ driven (plain_flat c.args.flat.now) c.args.number = c.as_slice.ensures.value ∙ (c.in_ok-target.ensures ∙ ap (driven_by (plain_flat c.args.flat.now)) (driver_is c.args.flat.now c.args.number c.args.driver.now c.requires.driver)) in
    rw c.as_slice-4.ensures.value (written_inside (plain_flat c.args.flat.now) (StepsTo c.args.number 0 0) c.args.nodes.now.steps.items c.args.nodes.now.rows.items (IsWrittenBy (plain_flat c.args.flat.now) (design_step.Driver c.args.number)) c.in_ok-written.written.items c.requires.graph
    (whole_written (plain_flat c.args.flat.now) c.args.number c.as_slice.result.now c.in_ok-written.written.items i e c.in_ok-written.ensures))

pub returns : goal.returns
returns c =
    let i : IsStep (plain_flat c.args.flat.now) (design_step.Driver c.args.number) = driver_step c.args.flat.now c.args.number c.requires.number c.requires.plain in
    let e : c.as_slice.result.now ≡ driven (plain_flat c.args.flat.now) c.args.number = c.as_slice.ensures.value ∙ (c.in_ok-target.ensures ∙ ap (driven_by (plain_flat c.args.flat.now)) (driver_is c.args.flat.now c.args.number c.args.driver.now c.requires.driver)) in
    let w : IsWritten (widths (plain_flat c.args.flat.now)) (IsWrittenBy (plain_flat c.args.flat.now) (design_step.Driver c.args.number)) c.as_slice-4.result.now =
    rw c.as_slice-4.ensures.value (whole_written (plain_flat c.args.flat.now) c.args.number c.as_slice.result.now c.in_ok-written.written.items i e c.in_ok-written.ensures) in
    let g = grown_side (plain_flat c.args.flat.now) (plain_side c.args.driver.now.value) (driver_at (plain_flat c.args.flat.now) c.args.number).value c.new-reaches.result.items c.add_named_by.new.reaches.items c.as_slice-2.result.now c.new-reaches.ensures.items c.as_slice-2.ensures.value
    (value_is c.args.flat.now c.args.number c.args.driver.now c.requires.driver) c.in_ok-add_named_by.ensures in
    let h = grown_distinct c.as_slice-2.result.now c.in_ok-named.named.items c.as_slice-3.result.now (SideReads (plain_flat c.args.flat.now) (driver_at (plain_flat c.args.flat.now) c.args.number).value) c.in_ok-named.ensures c.as_slice-3.ensures.value g in
    whole_added (plain_flat c.args.flat.now) c.args.number c.args.nodes.now.steps.items c.add_step.new.nodes.steps.items c.args.nodes.now.rows.items c.add_step.new.nodes.rows.items c.in_ok-row.row.items c.as_slice-4.result.now c.requires.graph i
    (whole_row (plain_flat c.args.flat.now) c.args.number c.args.own.now.items c.as_slice-3.result.now c.in_ok-row.row.items i h c.requires.own.1 c.in_ok-row.ensures) w c.in_ok-add_step.ensures.steps c.in_ok-add_step.ensures.graph
