use Rattle.rr_grammar.proofs.ModulesExact.{modules_exact}
use Rattle.rr_grammar.proofs.laws.grammar_is_exact.Goals as goal

pub returns : goal.returns
returns c = modules_exact
