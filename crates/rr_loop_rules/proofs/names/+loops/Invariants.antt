use Rattle.std.proofs.Common.{◌≡◌, drop, fold}
use Rattle.std.specs.Prelude.{flat_map}
use Rattle.rr_syntax.specs.View.{plain_statement}
use Rattle.rr_loop_rules.specs.Rules.{with_new, loops_in}
use Rattle.rr_loop_rules.proofs.names.+loops.Given as goal

abbrev pub invariant-add_loops_of_all-loop-stmt : goal.invariant-add_loops_of_all-loop-stmt
invariant-add_loops_of_all-loop-stmt l =
    fold with_new l.loops (flat_map (λ x. loops_in (plain_statement x)) (drop l.stmt-index l.body)) ≡ fold with_new l.fn.loops (flat_map (λ x. loops_in (plain_statement x)) l.body)

abbrev pub invariant-add_loops_of_arms-loop-arm : goal.invariant-add_loops_of_arms-loop-arm
invariant-add_loops_of_arms-loop-arm l =
    fold with_new l.loops (flat_map (λ x. loops_in (plain_statement x.body.now)) (drop l.arm-index l.arms)) ≡ fold with_new l.fn.loops (flat_map (λ x. loops_in (plain_statement x.body.now)) l.arms)
