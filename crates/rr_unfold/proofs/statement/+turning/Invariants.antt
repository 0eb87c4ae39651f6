use Rattle.std.proofs.Common.{◌≡◌, ◌+◌, ◌*◌, max, take, drop}
use Rattle.rr_syntax.specs.View.{plain_arms, plain_loop, plain_statement, plain_statements}
use Rattle.rr_loop_names.specs.View.{plain_turn}
use Rattle.rr_unfold.specs.Unfold.{counted, counted_all, counted_arms, each_turn, inside, tokens_of, turns_from, unfold_arms, unfold_statement, unfold_statements, values_from}
use Rattle.rr_unfold.specs.View.{plain_counts}
use Rattle.rr_unfold.proofs.Turning.{beside}
use Rattle.rr_unfold.proofs.statement.+turning.Given as goal

abbrev pub decreases-statement : goal.decreases-statement
decreases-statement l = 5 * (goal.size-statement l)

abbrev pub decreases-two : goal.decreases-two
decreases-two l = 5 * (max (goal.size-two l) (goal.size-two (record l { first = l.second }))) + 1

abbrev pub decreases-statements : goal.decreases-statements
decreases-statements l = 5 * (goal.size-statements l) + 1

abbrev pub decreases-cases : goal.decreases-cases
decreases-cases l = 5 * (goal.size-cases l) + 1

abbrev pub decreases-in_turn : goal.decreases-in_turn
decreases-in_turn l = 5 * (goal.size-in_turn l) + 1

abbrev pub decreases-turns : goal.decreases-turns
decreases-turns l = 5 * (goal.size-turns l) + 2

abbrev pub decreases-looped : goal.decreases-looped
decreases-looped l = 5 * (goal.size-looped l) + 3

abbrev pub invariant-statements-loop-stmt : goal.invariant-statements-loop-stmt
invariant-statements-loop-stmt l =
    (counted_all l.limit l.names l.scope (plain_turn l.turn) (plain_statements (drop l.stmt-index l.body)) (plain_counts l.counts) ≡ counted_all l.limit l.names l.scope (plain_turn l.turn) (plain_statements l.body) (plain_counts l.fn.counts))
    × (plain_statements l.list.items ≡ unfold_statements l.scope (plain_turn l.turn) (plain_statements (take l.stmt-index l.body)))

abbrev pub invariant-cases-loop-arm : goal.invariant-cases-loop-arm
invariant-cases-loop-arm l =
    (counted_arms l.limit l.names l.scope (plain_turn l.turn) (plain_arms (drop l.arm-index l.arms)) (plain_counts l.counts) ≡ counted_arms l.limit l.names l.scope (plain_turn l.turn) (plain_arms l.arms) (plain_counts l.fn.counts))
    × (plain_arms l.list.items ≡ unfold_arms l.scope (plain_turn l.turn) (plain_arms (take l.arm-index l.arms)))

abbrev pub invariant-turns-loop-left : goal.invariant-turns-loop-left
invariant-turns-loop-left l =
    (turns_from l.left l.limit l.scope (plain_turn l.turn) (plain_loop l.head) (tokens_of (plain_statement l.body)) (λ t d. counted l.limit l.names l.scope t (plain_statement l.body) d) l.value (plain_counts l.counts)
    ≡ turns_from 65537 l.limit l.scope (plain_turn l.turn) (plain_loop l.head) (tokens_of (plain_statement l.body)) (λ t d. counted l.limit l.names l.scope t (plain_statement l.body) d) l.fn.first (plain_counts l.fn.counts))
    × (beside (plain_statements l.list.items) (each_turn (λ v. unfold_statement l.scope (inside (plain_loop l.head) (plain_turn l.turn) v) (plain_statement l.body)) (values_from l.left l.scope (plain_turn l.turn) (plain_loop l.head) l.value))
    ≡ each_turn (λ v. unfold_statement l.scope (inside (plain_loop l.head) (plain_turn l.turn) v) (plain_statement l.body)) (values_from 65537 l.scope (plain_turn l.turn) (plain_loop l.head) l.fn.first))

abbrev pub decreases-turns-loop-left : goal.decreases-turns-loop-left
decreases-turns-loop-left l = l.left
