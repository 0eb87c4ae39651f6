use Rattle.std.proofs.Common.{◌∙◌, sym, ap, is_some}
use Rattle.rr_syntax.specs.View.{plain}
use Rattle.rr_flat.specs.Reads.{literals_in}
use Rattle.rr_text_names.specs.Firsts.{earliest}
use Rattle.rr_assign.specs.Labels.{wild}
use Rattle.rr_text_names.proofs.Walks.{walk_skip, walk_hit, walk_done}
use Rattle.rr_assign.proofs.WildNodes.{found_list}
use Rattle.rr_assign.proofs.labels.+literals.Goals as goal

pub first_wild_of_all-loop-expr-preserved : goal.first_wild_of_all-loop-expr-preserved
first_wild_of_all-loop-expr-preserved t c =
    walk_skip (λ x. wild (literals_in (plain x))) c.args.list.now c.loop-expr.expr-index c.expr-item.result c.loop-expr-test.true c.expr-item.is
    (ap is_some (sym c.first_wild-found.ensures) ∙ (sym c.is_some.ensures ∙ c.if-is_some.false))
    ∙ c.loop-expr.invariant

pub first_wild_of_all-returns-then-is_some : goal.first_wild_of_all-returns-then-is_some
first_wild_of_all-returns-then-is_some t c =
    c.first_wild-found.ensures
    ∙ (walk_hit (λ x. wild (literals_in (plain x))) c.args.list.now c.loop-expr.expr-index c.expr-item.result c.loop-expr-test.true c.expr-item.is
    (ap is_some (sym c.first_wild-found.ensures) ∙ (sym c.is_some.ensures ∙ c.if-is_some.true))
    ∙ (c.loop-expr.invariant ∙ ap earliest (sym (found_list c.args.list.now))))

pub first_wild_of_all-returns : goal.first_wild_of_all-returns
first_wild_of_all-returns t c =
    walk_done (λ x. wild (literals_in (plain x))) c.args.list.now c.loop-expr.expr-index c.loop-expr-test.false
    ∙ (c.loop-expr.invariant ∙ ap earliest (sym (found_list c.args.list.now)))
