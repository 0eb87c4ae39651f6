use Rattle.std.proofs.Common.{◌∙◌, ap, map, ◌++◌}
use Rattle.rr_syntax.specs.View.{plain_statement}
use Rattle.rr_flat.specs.Reads.{assigned_by}
use Rattle.rr_flat.specs.View.{plain_flat}
use Rattle.rr_assign.specs.Aims.{bad_assigned}
use Rattle.rr_text_names.specs.Firsts.{earliest}
use Rattle.rr_text_names.specs.View.{plain_target}
use Rattle.rr_assign.proofs.Fusion.{targets_collected}
use Rattle.rr_assign.proofs.aims.bad_of_statement.Goals as goal

pub returns : goal.returns
returns c =
    let ts = assigned_by (plain_statement c.args.body.now) in
    c.first_bad_assigned.ensures ∙ ap earliest (targets_collected (bad_assigned c.args.starting (plain_flat c.args.flat.now) c.args.scope) c.as_slice.result.now ts
    (ap (map plain_target) c.as_slice.ensures.value ∙ (c.in_ok-add_assigned_targets.ensures ∙ ap (λ z. map plain_target z ++ ts) c.new-targets.ensures.items)))
