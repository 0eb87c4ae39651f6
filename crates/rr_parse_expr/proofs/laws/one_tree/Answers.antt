use Rattle.rr_parse_expr.proofs.Longest.{unique}
use Rattle.rr_parse_expr.proofs.laws.one_tree.Goals as goal

pub returns : goal.returns
returns c = unique
