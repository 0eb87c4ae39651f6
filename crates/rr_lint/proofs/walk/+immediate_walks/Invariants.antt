use Rattle.std.proofs.Common.{◌≡◌, ◌+◌, ◌++◌, take}
use Rattle.rr_syntax.specs.View.{plain_arms, plain_statements}
use Rattle.rr_syntax.proofs.Lengths.{body_len, cases_len}
use Rattle.rr_patch.specs.Changes.{changes, plain_changes}
use Rattle.rr_lint_print.specs.Pieces.{all_immediate_pieces, arms_immediate_pieces}
use Rattle.rr_lint.proofs.walk.+immediate_walks.Given as goal

abbrev pub invariant-statements-loop-stmt : goal.invariant-statements-loop-stmt
invariant-statements-loop-stmt l =
    (l.place ≡ l.at + body_len (take l.stmt-index l.body)) ×
    (plain_changes l.out.items ≡ plain_changes l.initial.out.items ++ changes l.at (all_immediate_pieces (plain_statements (take l.stmt-index l.body))))

abbrev pub invariant-case_arms-loop-arm : goal.invariant-case_arms-loop-arm
invariant-case_arms-loop-arm l =
    (l.place ≡ l.at + cases_len (take l.arm-index l.arms)) ×
    (plain_changes l.out.items ≡ plain_changes l.initial.out.items ++ changes l.at (arms_immediate_pieces (plain_arms (take l.arm-index l.arms))))
