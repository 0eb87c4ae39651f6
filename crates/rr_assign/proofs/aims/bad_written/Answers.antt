use Rattle.std.proofs.Common.{◌∙◌, ap, map, ◌++◌, true}
use Rattle.rr_syntax.specs.View.{plain}
use Rattle.rr_flat.specs.Reads.{assigned_parts}
use Rattle.rr_flat.specs.Targets.{target_parts}
use Rattle.rr_flat.specs.View.{plain_flat}
use Rattle.rr_assign.specs.Aims.{bad_driven}
use Rattle.rr_text_names.specs.Firsts.{earliest}
use Rattle.rr_text_names.specs.View.{plain_target}
use Rattle.rr_assign.proofs.Fusion.{parts_collected}
use Rattle.rr_assign.proofs.aims.bad_written.Goals as goal

pub returns : goal.returns
returns c =
    let ts = target_parts (plain c.args.expr.now) in
    c.first_bad_part.ensures ∙ ap earliest (parts_collected (bad_driven (plain_flat c.args.flat.now) c.args.scope) true c.as_slice.result.now ts
    (ap (map plain_target) c.as_slice.ensures.value ∙ (c.in_ok-add_parts.ensures ∙ ap (λ z. map plain_target z ++ assigned_parts true ts) c.new-targets.ensures.items)))
