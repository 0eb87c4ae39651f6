use Rattle.rr_parse_stmt.proofs.Exactly.{unique_statement}
use Rattle.rr_parse_stmt.proofs.laws.one_statement.Goals as goal

pub returns : goal.returns
returns c = unique_statement
