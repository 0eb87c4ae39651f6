use Rattle.std.proofs.Common.{◌∙◌, sym, ap}
use Rattle.rr_syntax.specs.View.{plain}
use Rattle.rr_expr.specs.Scopes.{meant}
use Rattle.rr_flat.specs.Targets.{is_indexed, part_name}
use Rattle.rr_flat.specs.View.{plain_flat}
use Rattle.rr_flat.specs.Writers.{scope_at}
use Rattle.rr_assign.specs.Aims.{may_set}
use Rattle.rr_text_names.specs.Names.{part_token}
use Rattle.rr_assign.proofs.Fusion.{unless_none, unless_some}
use Rattle.rr_text_names.proofs.NamesOfParts.{named_text, named_token}
use Rattle.rr_assign.proofs.aims.bad_target.Goals as goal

pub returns-then-sets : goal.returns-then-sets
returns-then-sets c =
    let F = plain_flat c.args.flat.now in
    let S = scope_at F c.args.scope in
    let t = plain c.args.target.now.part.now in
    let text = named_text c.identifier_of-named.result t c.identifier_of-named.ensures in
    unless_none (may_set c.args.starting F (meant S (part_name t)) (is_indexed t)) (part_token t)
    (ap (λ n. may_set c.args.starting F (meant S n) (is_indexed t)) (sym text) ∙ (sym c.sets.ensures ∙ c.if-sets.true))

pub returns-else-sets : goal.returns-else-sets
returns-else-sets c =
    let F = plain_flat c.args.flat.now in
    let S = scope_at F c.args.scope in
    let t = plain c.args.target.now.part.now in
    let text = named_text c.identifier_of-named.result t c.identifier_of-named.ensures in
    unless_some (may_set c.args.starting F (meant S (part_name t)) (is_indexed t)) (part_token t) c.identifier_of-named.result.token
    (ap (λ n. may_set c.args.starting F (meant S n) (is_indexed t)) (sym text) ∙ (sym c.sets.ensures ∙ c.if-sets.false))
    (named_token c.identifier_of-named.result t c.identifier_of-named.ensures)
