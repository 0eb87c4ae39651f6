use Rattle.rr_grammar.proofs.OneSource.{unique_tree}
use Rattle.rr_grammar.proofs.laws.one_tree.Goals as goal

pub returns : goal.returns
returns c = unique_tree
