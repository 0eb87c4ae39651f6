use Rattle.std.proofs.Common.{◌∙◌, sym, ap, cond, None}
use Rattle.rr_syntax.specs.View.{plain}
use Rattle.rr_expr.specs.Scopes.{meant}
use Rattle.rr_flat.specs.Targets.{variable_of, part_name}
use Rattle.rr_flat.specs.View.{plain_flat}
use Rattle.rr_flat.specs.Writers.{scope_at}
use Rattle.rr_text_names.specs.Names.{variable_named}
use Rattle.rr_text_names.proofs.NamesOfParts.{named_text}
use Rattle.rr_assign.proofs.races.written.Goals as goal

pub returns-then-target-clause-value : goal.returns-then-target-clause-value
returns-then-target-clause-value c =
    let F = plain_flat c.args.flat.now in
    let S = scope_at F c.args.scope in
    let t = plain c.args.target.now.part.now in
    let text = named_text c.identifier_of-named.result t c.identifier_of-named.ensures in
    c.variable_named.ensures.value
    ∙ (ap (λ n. variable_of (meant S n)) text ∙ sym (ap (λ b. cond b (variable_named F c.args.scope (part_name t)) None) c.if-target.true))
