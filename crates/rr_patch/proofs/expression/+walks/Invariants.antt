use Rattle.std.proofs.Common.{◌≡◌, ◌+◌, ◌++◌, take}
use Rattle.rr_syntax.specs.View.{plain_list}
use Rattle.rr_syntax.proofs.Lengths.{more_len}
use Rattle.rr_patch.specs.Changes.{changes, plain_changes}
use Rattle.rr_respell.specs.Printing.{more_pieces}
use Rattle.rr_patch.proofs.expression.+walks.Given as goal

abbrev pub invariant-expressions-loop-expr : goal.invariant-expressions-loop-expr
invariant-expressions-loop-expr l =
    (l.comma ≡ l.at + more_len (take l.expr-index l.parts)) ×
    (plain_changes l.out.items ≡ plain_changes l.initial.out.items ++ changes l.at (more_pieces l.list l.choice.picks.items (plain_list (take l.expr-index l.parts))))
