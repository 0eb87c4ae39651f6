use Rattle.std.proofs.Common.{◌∙◌, sym, ap}
use Rattle.rr_syntax.specs.View.{plain}
use Rattle.rr_expr.specs.Scopes.{meant}
use Rattle.rr_flat.specs.Targets.{is_fixed, part_name}
use Rattle.rr_flat.specs.View.{plain_flat}
use Rattle.rr_flat.specs.Writers.{scope_at}
use Rattle.rr_assign.specs.Aims.{may_drive}
use Rattle.rr_text_names.specs.Names.{signal_of, signal_named, part_token}
use Rattle.rr_assign.proofs.Fusion.{unless_none, unless_some}
use Rattle.rr_text_names.proofs.NamesOfParts.{named_text, named_token}
use Rattle.rr_assign.proofs.aims.bad_part.Goals as goal

pub returns-then-drives : goal.returns-then-drives
returns-then-drives c =
    let F = plain_flat c.args.flat.now in
    let S = scope_at F c.args.scope in
    let t = plain c.args.part.now in
    let text = named_text c.identifier_of-named.result t c.identifier_of-named.ensures in
    unless_none (may_drive F (signal_named F c.args.scope (part_name t)) (is_fixed S t)) (part_token t)
    (ap (λ n. may_drive F (signal_of (meant S n)) (is_fixed S t)) (sym text) ∙ (sym c.drives.ensures ∙ c.if-drives.true))

pub returns-else-drives : goal.returns-else-drives
returns-else-drives c =
    let F = plain_flat c.args.flat.now in
    let S = scope_at F c.args.scope in
    let t = plain c.args.part.now in
    let text = named_text c.identifier_of-named.result t c.identifier_of-named.ensures in
    unless_some (may_drive F (signal_named F c.args.scope (part_name t)) (is_fixed S t)) (part_token t) c.identifier_of-named.result.token
    (ap (λ n. may_drive F (signal_of (meant S n)) (is_fixed S t)) (sym text) ∙ (sym c.drives.ensures ∙ c.if-drives.false))
    (named_token c.identifier_of-named.result t c.identifier_of-named.ensures)
