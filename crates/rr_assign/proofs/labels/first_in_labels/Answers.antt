use Rattle.std.proofs.Common.{◌∙◌, sym, ap, is_some}
use Rattle.rr_syntax.specs.View.{plain}
use Rattle.rr_text_names.specs.Firsts.{earliest}
use Rattle.rr_assign.specs.Labels.{wild_label}
use Rattle.rr_text_names.proofs.Walks.{walk_skip, walk_hit, walk_done}
use Rattle.rr_assign.proofs.WildNodes.{labels_list}
use Rattle.rr_assign.proofs.labels.first_in_labels.Goals as goal

pub loop-label-preserved : goal.loop-label-preserved
loop-label-preserved c =
    walk_skip (λ x. wild_label c.args.kind.0 (plain x)) c.args.labels.now c.loop-label.label-index c.label-item.result c.loop-label-test.true c.label-item.is
    (ap is_some (sym c.first_in_label-found.ensures) ∙ (sym c.is_some.ensures ∙ c.if-is_some.false))
    ∙ c.loop-label.invariant

pub returns-then-is_some : goal.returns-then-is_some
returns-then-is_some c =
    c.first_in_label-found.ensures
    ∙ (walk_hit (λ x. wild_label c.args.kind.0 (plain x)) c.args.labels.now c.loop-label.label-index c.label-item.result c.loop-label-test.true c.label-item.is
    (ap is_some (sym c.first_in_label-found.ensures) ∙ (sym c.is_some.ensures ∙ c.if-is_some.true))
    ∙ (c.loop-label.invariant ∙ ap earliest (sym (labels_list c.args.kind.0 c.args.labels.now))))

pub returns : goal.returns
returns c =
    walk_done (λ x. wild_label c.args.kind.0 (plain x)) c.args.labels.now c.loop-label.label-index c.loop-label-test.false
    ∙ (c.loop-label.invariant ∙ ap earliest (sym (labels_list c.args.kind.0 c.args.labels.now)))
