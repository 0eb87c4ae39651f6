use Rattle.std.proofs.Common.{◌∙◌, ap}
use Rattle.rr_expr.specs.Scopes.{meant}
use Rattle.rr_flat.specs.View.{plain_flat}
use Rattle.rr_flat.specs.Writers.{scope_at}
use Rattle.rr_assign.specs.Aims.{may_set}
use Rattle.rr_assign.proofs.aims.sets.Goals as goal

pub returns : goal.returns
returns c =
    let F = plain_flat c.args.flat.now in
    c.may_set.ensures
    ∙ (ap (λ e. may_set c.args.starting F e c.is_indexed.result) c.entity_named-entity.ensures.value
    ∙ ap (λ b. may_set c.args.starting F (meant (scope_at F c.args.scope) c.args.name.now) b) c.is_indexed.ensures)
