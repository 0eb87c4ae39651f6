use Rattle.std.proofs.Common.{◌∙◌, sym}
use Rattle.rr_trace.proofs.Entries.{same_number}
use Rattle.rr_trace.proofs.names.Numbers.find.Goals as goal

pub returns : goal.returns
returns c = let same = same_number c.args.name.now c.self.inside.names.entries in rw (← c.self.view_is) (c.copied.ensures ∙ (c.get.ensures.value ∙ sym same))
