use Rattle.std.proofs.Common.{◌∙◌}
use Rattle.rr_expr.proofs.Words.{one_place}
use Rattle.rr_expr.proofs.operators.truth.Goals as goal

pub returns : goal.returns
returns c = c.from_u128.ensures ∙ one_place c.args.holds
