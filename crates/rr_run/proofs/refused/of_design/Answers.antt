use Rattle.std.proofs.Common.{subst}
use Rattle.rr_elaborate.specs.Designs.{Refuses}
use Rattle.rr_run.proofs.refused.of_design.Goals as goal

pub returns-in-Unsupported : goal.returns-in-Unsupported
returns-in-Unsupported c = λ bytes top word h. c.at-in-Unsupported.ensures bytes top word (subst (Refuses bytes top) c.in-Unsupported.is h)

pub returns-in-Syntax : goal.returns-in-Syntax
returns-in-Syntax c = λ bytes top word h. c.at-in-Syntax.ensures bytes top word (subst (Refuses bytes top) c.in-Syntax.is h)
