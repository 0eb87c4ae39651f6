use Rattle.std.proofs.Common.{◌∙◌, sym}
use Rattle.rr_guard.proofs.Sets.{same_any}
use Rattle.rr_guard.proofs.texts.TextSet.has.Goals as goal

pub returns : goal.returns
returns c = rw (← c.self.view_is) (c.contains.ensures ∙ sym (same_any c.args.text.now c.self.inside.texts.keys))
