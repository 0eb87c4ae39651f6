use Rattle.std.proofs.Common.{option_map}
use Rattle.rr_flat.specs.View.{plain_flat}
use Rattle.rr_run.proofs.design.checked.Goals as goal

pub returns-clause-answer : goal.returns-clause-answer
returns-clause-answer c = λ bytes top design. c.of_law.ensures bytes top (option_map (λ w. w.now) c.args.clock) (plain_flat c.args.design.flat) design c.in-Err.ensures.first
