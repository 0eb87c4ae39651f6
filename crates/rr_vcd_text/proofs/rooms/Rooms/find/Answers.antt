use Rattle.std.proofs.Common.{◌∙◌, sym}
use Rattle.rr_vcd_text.proofs.Sizing.{same_number}
use Rattle.rr_vcd_text.proofs.rooms.Rooms.find.Goals as goal

pub returns : goal.returns
returns c = let same = same_number c.args.id.now c.self.inside.sizes.entries in rw (← c.self.view_is) (c.copied.ensures ∙ (c.get.ensures.value ∙ sym same))
