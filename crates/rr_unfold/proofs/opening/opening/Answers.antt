use Rattle.std.proofs.Common.{ap, subst, ◌∙◌}
use Rattle.rr_syntax.specs.View.{plain_loop}
use Rattle.rr_declarations.proofs.Steps.{refused}
use Rattle.rr_loop_names.specs.View.{plain_turn}
use Rattle.rr_unfold.proofs.Openings.{opening_refuses, opening_faulty}
use Rattle.rr_unfold.proofs.opening.opening.Goals as goal

pub returns-in_err-value : goal.returns-in_err-value
returns-in_err-value c =
    refused c.from_residual.result _ _ c.in_err-value.field-0.0 c.from_residual.ensures.1
    (opening_refuses c.args.names.now c.args.scope.now (plain_turn c.args.turn.now) (plain_loop c.args.head.now) c.in_err-value.field-0.0 c.in_err-value.ensures)

pub returns-in_err-check_turn : goal.returns-in_err-check_turn
returns-in_err-check_turn c =
    let is = ap plain_turn c.as_slice.ensures.value ∙ c.in_ok-inner.ensures in
    refused c.from_residual-in_err-check_turn.result _ _ c.in_err-check_turn.field-0.0 c.from_residual-in_err-check_turn.ensures.1
    (opening_faulty c.args.names.now c.args.scope.now (plain_turn c.args.turn.now) (plain_loop c.args.head.now) c.in_ok-value.value c.in_err-check_turn.field-0.0 c.in_ok-value.ensures (rw is at c.in_err-check_turn.ensures))
