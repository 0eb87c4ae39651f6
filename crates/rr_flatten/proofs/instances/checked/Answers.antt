use Rattle.std.proofs.Common.{◌∙◌, sym}
use Rattle.rr_flatten.proofs.Clears.{connections_clear}
use Rattle.rr_flatten.proofs.instances.checked.Goals as goal

pub returns-clause-connected : goal.returns-clause-connected
returns-clause-connected c = connections_clear _ _ _ _ _ c.requires.formed c.requires.fit (sym c.in_ok-found.ensures ∙ c.in-None.is)
