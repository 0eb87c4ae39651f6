use Rattle.std.proofs.Common.{◌≡◌, ◌++◌, take}
use Rattle.rr_syntax.specs.View.{texts}
use Rattle.rr_respell.specs.Pieces.{puts}
use Rattle.rr_patch.specs.Changes.{changes, plain_changes}
use Rattle.rr_lint_print.specs.Pieces.{cleared_news}
use Rattle.rr_lint.proofs.changes.clear_all.Given as goal

abbrev pub invariant-loop-name : goal.invariant-loop-name
invariant-loop-name l = record { done : plain_changes l.out.items ≡ plain_changes l.initial.out.items ++ changes l.place (puts (cleared_news (texts (take l.name-index l.names)))) }
