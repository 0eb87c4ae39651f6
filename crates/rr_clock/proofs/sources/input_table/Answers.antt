use Rattle.std.proofs.Common.{◌∙◌, sym, length}
use Rattle.std.proofs.lemmas.List.{length-map}
use Rattle.rr_flat.specs.View.{plain_signal}
use Rattle.rr_flat.specs.View.{plain_flat}
use Rattle.rr_clock.proofs.Spreading.{inputs_start, inputs_step, inputs_end}
use Rattle.rr_clock.proofs.sources.input_table.Goals as goal

pub loop-id-init : goal.loop-id-init
loop-id-init c =
    inputs_start (plain_flat c.args.flat.now) c.in_ok-table.table.items (c.in_ok-table.ensures.size ∙ (c.signal_count.ensures.value ∙ sym (length-map c.args.flat.now.signals plain_signal))) c.in_ok-table.ensures.none

pub loop-id-preserved : goal.loop-id-preserved
loop-id-preserved c =
    inputs_step (plain_flat c.args.flat.now) c.input_list-inputs.result.now (length c.args.flat.now.signals) c.loop-id.id-index _ c.loop-id.table.items c.note_input.new.table.items c.input_list-inputs.ensures.value
    (length-map c.args.flat.now.signals plain_signal) c.loop-id-test.true (c.input_list-inputs.ensures.sound c.loop-id.id-index _ c.loop-id-test.true) c.loop-id.invariant c.note_input.ensures

pub returns-clause-sound : goal.returns-clause-sound
returns-clause-sound c =
    inputs_end (plain_flat c.args.flat.now) c.input_list-inputs.result.now c.loop-id.id-index c.loop-id.table.items c.input_list-inputs.ensures.value c.loop-id-test.false c.loop-id.auto.id-index-end c.loop-id.invariant
