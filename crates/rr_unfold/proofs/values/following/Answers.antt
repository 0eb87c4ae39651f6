use Rattle.std.proofs.Common.{◌∙◌, sym, ap, inr, Ok}
use Rattle.rr_syntax.specs.View.{plain_loop}
use Rattle.rr_declarations.proofs.Steps.{refused}
use Rattle.rr_loop_names.specs.View.{plain_turn}
use Rattle.rr_unfold.proofs.Following.{follows-refused, follows-some, follows-stuck}
use Rattle.rr_unfold.proofs.values.following.Goals as goal

pub returns-in_err-more-2 : goal.returns-in_err-more-2
unfolding plain_loop
returns-in_err-more-2 c =
    refused c.from_residual-in_err-more-2.result _ _ c.in_err-more-2.field-0.0 c.from_residual-in_err-more-2.ensures.1
    (inr (follows-refused c.args.scope.now (plain_turn c.args.inner.now) (plain_loop c.args.head.now) c.in_err-more-2.field-0.0 (sym c.in_ok-more.ensures ∙ c.in_err-more-2.was)))

pub returns-in_err-next-2 : goal.returns-in_err-next-2
unfolding plain_loop
returns-in_err-next-2 c =
    refused c.from_residual-in_err-next-2.result _ _ c.in_err-next-2.field-0.0 c.from_residual-in_err-next-2.ensures.1
    (inr (follows-stuck c.args.scope.now (plain_turn c.args.inner.now) (plain_loop c.args.head.now) c.in_err-next-2.field-0.0 (sym c.in_ok-more.ensures ∙ c.in_ok-more-2.was ∙ ap Ok c.if-not-branch.false) (sym c.in_ok-next.ensures ∙ c.in_err-next-2.was)))

pub returns : goal.returns
unfolding plain_loop
returns c =
    follows-some c.args.scope.now (plain_turn c.args.inner.now) (plain_loop c.args.head.now) c.in_ok-next-2.next (sym c.in_ok-more.ensures ∙ c.in_ok-more-2.was ∙ ap Ok c.if-not-branch.false) (sym c.in_ok-next.ensures ∙ c.in_ok-next-2.was)
