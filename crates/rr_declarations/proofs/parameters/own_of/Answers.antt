use Rattle.rr_declarations.proofs.Firsts.{either_none}
use Rattle.rr_declarations.proofs.parameters.own_of.Goals as goal

pub returns-in-Ok-clause-value : goal.returns-in-Ok-clause-value
returns-in-Ok-clause-value c = either_none _ c.args.own c.in-Ok.ensures.none
