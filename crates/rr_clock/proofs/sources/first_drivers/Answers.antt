use Rattle.std.proofs.Common.{◌∙◌, sym, ap, map, length}
use Rattle.std.proofs.lemmas.List.{length-map}
use Rattle.rr_flat.specs.View.{plain_signal}
use Rattle.rr_flat.specs.View.{plain_driver, plain_flat}
use Rattle.rr_clock.proofs.Spreading.{first_start, first_step, first_end}
use Rattle.rr_clock.proofs.sources.first_drivers.Goals as goal

pub loop-number-init : goal.loop-number-init
loop-number-init c = first_start (plain_flat c.args.flat.now) (length c.args.flat.now.signals) c.in_ok-table.table.items (c.in_ok-table.ensures.size ∙ c.signal_count.ensures.value) c.in_ok-table.ensures.none

pub loop-number-preserved : goal.loop-number-preserved
loop-number-preserved c =
    first_step (plain_flat c.args.flat.now) c.driver_list-drivers.result.now (length c.args.flat.now.signals) c.loop-number.number c.loop-number.table.items c.note_target.new.table.items _
    (ap (map plain_driver) (sym c.driver_list-drivers.ensures.value)) c.loop-number-test.true c.loop-number.invariant c.note_target.ensures

pub returns : goal.returns
returns c =
    first_end (plain_flat c.args.flat.now) c.driver_list-drivers.result.now (length c.args.flat.now.signals) c.loop-number.number c.loop-number.table.items
    (ap (map plain_driver) (sym c.driver_list-drivers.ensures.value)) (sym (length-map c.args.flat.now.signals plain_signal)) c.loop-number-test.false c.loop-number.auto.number-end c.loop-number.invariant
