use Rattle.std.proofs.Common.{◌∙◌, sym}
use Rattle.rr_loop_rules.proofs.Sets.{same_any}
use Rattle.rr_loop_rules.proofs.names.LoopNames.has.Goals as goal

pub returns : goal.returns
returns c = rw (← c.self.view_is) (c.contains.ensures ∙ sym (same_any c.args.name.now c.self.inside.names.keys))
