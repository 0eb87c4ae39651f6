use Rattle.rr_lint_tree.proofs.Trees.{cleared_is}
use Rattle.rr_lint_tree.proofs.mending.cleared.Goals as goal

pub returns : goal.returns
returns c = cleared_is _ _ c.args.name c.in_ok-target.ensures c.in_ok-value.ensures
