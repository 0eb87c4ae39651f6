use Rattle.std.proofs.Common.{◌≡◌, ◌∙◌, sym, ap, is_some}
use Rattle.std.specs.Option.{option_or}
use Rattle.rr_syntax.specs.View.{plain_list, plain_statement}
use Rattle.rr_text_names.specs.Firsts.{earliest}
use Rattle.rr_assign.specs.Labels.{wild_labels, wild_in}
use Rattle.rr_text_names.proofs.Walks.{walk_skip, walk_hit, walk_done, earliest_append}
use Rattle.rr_assign.proofs.WildNodes.{in_list, in_arms, arm_wild}
use Rattle.rr_assign.proofs.labels.+wild.Goals as goal

pub first_in_all-loop-stmt-preserved : goal.first_in_all-loop-stmt-preserved
first_in_all-loop-stmt-preserved t c =
    walk_skip (λ x. wild_in (plain_statement x)) c.args.body.now c.loop-stmt.stmt-index c.stmt-item.result c.loop-stmt-test.true c.stmt-item.is
    (ap is_some (sym c.first_in-found.ensures) ∙ (sym c.is_some.ensures ∙ c.if-is_some.false))
    ∙ c.loop-stmt.invariant

pub first_in_all-returns-then-is_some : goal.first_in_all-returns-then-is_some
first_in_all-returns-then-is_some t c =
    c.first_in-found.ensures
    ∙ (walk_hit (λ x. wild_in (plain_statement x)) c.args.body.now c.loop-stmt.stmt-index c.stmt-item.result c.loop-stmt-test.true c.stmt-item.is
    (ap is_some (sym c.first_in-found.ensures) ∙ (sym c.is_some.ensures ∙ c.if-is_some.true))
    ∙ (c.loop-stmt.invariant ∙ ap earliest (sym (in_list c.args.body.now))))

pub first_in_all-returns : goal.first_in_all-returns
first_in_all-returns t c =
    walk_done (λ x. wild_in (plain_statement x)) c.args.body.now c.loop-stmt.stmt-index c.loop-stmt-test.false
    ∙ (c.loop-stmt.invariant ∙ ap earliest (sym (in_list c.args.body.now)))

pub first_in_arms-loop-arm-preserved : goal.first_in_arms-loop-arm-preserved
first_in_arms-loop-arm-preserved t c =
    let x = c.arm-item.result in
    let found : c.or-found.result ≡ earliest (arm_wild c.args.kind.0 x) =
    c.or-found.ensures ∙ (ap (λ z. option_or z c.first_in.result) c.first_in_labels.ensures
    ∙ (ap (option_or (earliest (wild_labels c.args.kind.0 (plain_list x.labels.now)))) c.first_in.ensures
    ∙ sym (earliest_append (wild_labels c.args.kind.0 (plain_list x.labels.now)) (wild_in (plain_statement x.body.now))))) in
    walk_skip (arm_wild c.args.kind.0) c.args.arms.now c.loop-arm.arm-index x c.loop-arm-test.true c.arm-item.is
    (ap is_some (sym found) ∙ (sym c.is_some.ensures ∙ c.if-is_some.false))
    ∙ c.loop-arm.invariant

pub first_in_arms-returns-then-is_some : goal.first_in_arms-returns-then-is_some
first_in_arms-returns-then-is_some t c =
    let x = c.arm-item.result in
    let found : c.or-found.result ≡ earliest (arm_wild c.args.kind.0 x) =
    c.or-found.ensures ∙ (ap (λ z. option_or z c.first_in.result) c.first_in_labels.ensures
    ∙ (ap (option_or (earliest (wild_labels c.args.kind.0 (plain_list x.labels.now)))) c.first_in.ensures
    ∙ sym (earliest_append (wild_labels c.args.kind.0 (plain_list x.labels.now)) (wild_in (plain_statement x.body.now))))) in
    found
    ∙ (walk_hit (arm_wild c.args.kind.0) c.args.arms.now c.loop-arm.arm-index x c.loop-arm-test.true c.arm-item.is
    (ap is_some (sym found) ∙ (sym c.is_some.ensures ∙ c.if-is_some.true))
    ∙ (c.loop-arm.invariant ∙ ap earliest (sym (in_arms c.args.kind.0 c.args.arms.now))))

pub first_in_arms-returns : goal.first_in_arms-returns
first_in_arms-returns t c =
    walk_done (arm_wild c.args.kind.0) c.args.arms.now c.loop-arm.arm-index c.loop-arm-test.false
    ∙ (c.loop-arm.invariant ∙ ap earliest (sym (in_arms c.args.kind.0 c.args.arms.now)))
