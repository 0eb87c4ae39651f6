use Rattle.std.proofs.Common.{◌∙◌, length, ap}
use Rattle.rr_made_input.proofs.TextLaws.{design_length}
use Rattle.rr_made_input.proofs.making.made.Goals as goal

pub returns-clause-length : goal.returns-clause-length
returns-clause-length c = ap length c.in_ok-design.ensures ∙ design_length c.args.seed
