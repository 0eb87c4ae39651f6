use Rattle.std.proofs.Common.{subst}
use Rattle.rr_elaborate.specs.Designs.{IsFlawed}
use Rattle.rr_run.proofs.refused.of_flaw.Goals as goal

pub returns-in-TooWide : goal.returns-in-TooWide
returns-in-TooWide c = λ bytes top word h. c.at-in-TooWide.ensures bytes top word (c.in-TooWide.field-1, subst (IsFlawed bytes top) c.in-TooWide.is h)
