use Rattle.std.proofs.Common.{◌≡◌, ◌∙◌, ◌<◌, ◌++◌, ◌∷◌, [], ap, arith, length, ℕ, Some}
use Rattle.rr_flat.specs.declared.design.Step.TheVariants as design_step
use Rattle.rr_flat.specs.Ordered.{IsStep}
use Rattle.rr_flat.specs.View.{plain_flat, plain_side}
use Rattle.rr_flat.specs.Writers.{driven, driven_by, driver_at}
use Rattle.rr_order.specs.Nodes.{IsWritten, IsWrittenBy, StepsTo, widths}
use Rattle.rr_order.proofs.Growing.{written_inside, wire_step, driver_is, value_is, taken_is, entry_is, wire_row, wire_written, wire_added, wires_added}
use Rattle.rr_order.proofs.steps.add_wires.Goals as goal

pub add_step-requires : goal.add_step-requires
add_step-requires c = rw c.as_slice-in-loop-place.ensures.value (written_inside (plain_flat c.args.flat.now) (StepsTo c.args.number c.loop-place.place 0) c.loop-place.nodes.steps.items c.loop-place.nodes.rows.items (λ b. c.index.result.now ≡ Some b) c.in_ok-written.written.items c.loop-place.invariant c.in_ok-written.ensures)

pub loop-place-init : goal.loop-place-init
loop-place-init c = c.requires.graph

pub loop-place-preserved : goal.loop-place-preserved
loop-place-preserved c =
    let e : c.in_ok-target.target.items ≡ driven (plain_flat c.args.flat.now) c.args.number = c.in_ok-target.ensures ∙ ap (driven_by (plain_flat c.args.flat.now)) (driver_is c.args.flat.now c.args.number c.args.driver.now c.requires.driver) in
    let l : c.loop-place.place < length c.in_ok-target.target.items = omega (arith, c.loop-place-test.true, c.len-place-end.ensures, c.in_ok-target.target.ok) in
    let i : IsStep (plain_flat c.args.flat.now) (design_step.Wire c.args.number c.loop-place.place) = wire_step c.args.flat.now c.args.number c.loop-place.place c.requires.number c.requires.wires (omega (arith, l, ap length e)) in
    let w : IsWritten (widths (plain_flat c.args.flat.now)) (IsWrittenBy (plain_flat c.args.flat.now) (design_step.Wire c.args.number c.loop-place.place)) c.as_slice-in-loop-place.result.now =
    rw c.as_slice-in-loop-place.ensures.value (wire_written (plain_flat c.args.flat.now) c.args.number c.loop-place.place c.index.result.now c.in_ok-written.written.items i (entry_is c.in_ok-target.target.items (driven (plain_flat c.args.flat.now) c.args.number) c.loop-place.place c.index.result.now l c.index.ensures e) c.in_ok-written.ensures) in
    let t = taken_is (plain_flat c.args.flat.now) (plain_side c.args.driver.now.value) (driver_at (plain_flat c.args.flat.now) c.args.number).value c.is_signed-signed.result c.as_slice.result.now c.loop-place.place c.taken_at-from.result
    (value_is c.args.flat.now c.args.number c.args.driver.now c.requires.driver) c.is_signed-signed.ensures (c.as_slice.ensures.value ∙ c.in_ok-source.ensures) c.taken_at-from.ensures in
    wire_added (plain_flat c.args.flat.now) c.args.number c.loop-place.place c.loop-place.nodes.steps.items c.add_step.new.nodes.steps.items c.loop-place.nodes.rows.items c.add_step.new.nodes.rows.items c.in_ok-row.row.items c.as_slice-in-loop-place.result.now c.loop-place.invariant i
    (wire_row (plain_flat c.args.flat.now) c.args.number c.loop-place.place c.taken_at-from.result c.in_ok-row.row.items i t c.in_ok-row.ensures) w
    (c.in_ok-add_step.ensures.steps ∙ ap (λ (n : ℕ). c.loop-place.nodes.steps.items ++ design_step.Wire c.args.number n ∷ []) c.in_ok-number_of.ensures) c.in_ok-add_step.ensures.graph

pub returns : goal.returns
returns c =
    let e : c.in_ok-target.target.items ≡ driven (plain_flat c.args.flat.now) c.args.number = c.in_ok-target.ensures ∙ ap (driven_by (plain_flat c.args.flat.now)) (driver_is c.args.flat.now c.args.number c.args.driver.now c.requires.driver) in
    wires_added (plain_flat c.args.flat.now) c.args.number c.loop-place.place c.loop-place.nodes.steps.items c.loop-place.nodes.rows.items c.requires.wires (omega (arith, c.loop-place-test.false, c.len-place-end.ensures, c.in_ok-target.target.ok, ap length e)) c.loop-place.invariant
