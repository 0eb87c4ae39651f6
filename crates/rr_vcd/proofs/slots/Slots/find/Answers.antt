use Rattle.std.proofs.Common.{◌∙◌, sym}
use Rattle.rr_vcd.proofs.Slotting.{same_slot}
use Rattle.rr_vcd.proofs.slots.Slots.find.Goals as goal

pub returns : goal.returns
returns c = let same = same_slot c.args.id.now c.self.inside.slots.entries in rw (← c.self.view_is) (c.copied.ensures ∙ (c.get.ensures.value ∙ sym same))
