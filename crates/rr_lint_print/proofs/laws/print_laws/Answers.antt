use Rattle.rr_lint_laws.proofs.Formed.{lint_stays_formed}
use Rattle.rr_lint_print.proofs.KeptBytes.{keeps_bytes}
use Rattle.rr_lint_print.proofs.MendedTree.{prints_by}
use Rattle.rr_lint_print.proofs.NewsPut.{news_are_put}
use Rattle.rr_lint_print.proofs.Nothing.{nothing_put}
use Rattle.rr_lint_print.proofs.laws.print_laws.Goals as goal

pub returns-clause-tree : goal.returns-clause-tree
returns-clause-tree c = prints_by lint_stays_formed

pub returns-clause-bytes : goal.returns-clause-bytes
returns-clause-bytes c = keeps_bytes

pub returns-clause-put : goal.returns-clause-put
returns-clause-put c = news_are_put

pub returns-clause-nothing : goal.returns-clause-nothing
returns-clause-nothing c = nothing_put
