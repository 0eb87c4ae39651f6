use Rattle.std.proofs.Common.{◌∙◌, ap, subst, length}
use Rattle.rr_flat.specs.Sound.{AreStarts}
use Rattle.rr_meaning.proofs.Rows.{none_above}
use Rattle.rr_meaning.proofs.starts.starts_of.Goals as goal

pub returns-clause-count : goal.returns-clause-count
returns-clause-count c = ap length c.in_ok-starts.ensures ∙ c.start_list.ensures.sound.all

pub returns-clause-above : goal.returns-clause-above
returns-clause-above c = none_above c.args.flat.now (subst (AreStarts c.args.flat.now.signals) c.start_list.ensures.value c.start_list.ensures.sound)
