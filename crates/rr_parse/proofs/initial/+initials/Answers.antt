use Rattle.std.proofs.Common.{◌∙◌, sym}
use Rattle.rr_parse.proofs.InitialForms.{initial_next, initial_not, initial_start}
use Rattle.rr_parse.proofs.initial.+initials.Goals as goal

pub are_initial-loop-stmt-init : goal.are_initial-loop-stmt-init
are_initial-loop-stmt-init t c = initial_start c.args.body.now

pub are_initial-returns-then-not-is_initial : goal.are_initial-returns-then-not-is_initial
are_initial-returns-then-not-is_initial t c = sym (initial_not c.args.body.now c.loop-stmt.stmt-index c.stmt-item.result c.loop-stmt-test.true c.stmt-item.is (sym c.is_initial.ensures ∙ c.if-not-is_initial.true))

pub are_initial-loop-stmt-preserved : goal.are_initial-loop-stmt-preserved
are_initial-loop-stmt-preserved t c = initial_next c.args.body.now c.loop-stmt.stmt-index c.stmt-item.result c.loop-stmt-test.true c.stmt-item.is c.loop-stmt.invariant (sym c.is_initial.ensures ∙ c.if-not-is_initial.false)
