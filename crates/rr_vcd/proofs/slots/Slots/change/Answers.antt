use Rattle.std.proofs.Common.{◌∙◌, sym, refl}
use Rattle.rr_vcd.proofs.Slotting.{slots_changed, slots_skipped, on_ok}
use Rattle.rr_vcd.proofs.slots.Slots.change.Goals as goal

pub returns-in_default-clause-slots : goal.returns-in_default-clause-slots
returns-in_default-clause-slots c = λ past told now. slots_skipped c.args.id.now c.args.digits.now past told c.args.moment c.args.self.now (sym c.find.ensures ∙ c.in_default.is) now

pub returns-clause-slots : goal.returns-clause-slots
returns-clause-slots c = λ past told now.
    on_ok _ _ c.put.result (λ put. slots_changed c.args.id.now c.args.digits.now past told c.args.moment c.args.self.now c.put.new.self c.in-Some.slot
    (record { earlier = c.before_moment.result; current = c.wide_cell.result; moment = c.args.moment }) (sym c.find.ensures ∙ c.in-Some.is) (rw (c.before_moment.ensures, c.wide_cell.ensures) refl) put now) c.put.ensures
