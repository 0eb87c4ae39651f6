use Rattle.rr_grammar.proofs.OneSource.{unique_tree}
use Rattle.rr_parse.proofs.source.parse.Goals as goal

pub returns-clause-one_tree : goal.returns-clause-one_tree
returns-clause-one_tree c = unique_tree
