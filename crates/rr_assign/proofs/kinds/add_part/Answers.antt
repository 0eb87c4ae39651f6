use Rattle.std.proofs.Common.{◌∙◌, ◌++◌, ap, map}
use Rattle.rr_syntax.specs.View.{plain_statement}
use Rattle.rr_flat.specs.Reads.{assigned_by}
use Rattle.rr_flat.specs.View.{plain_block, plain_flat}
use Rattle.rr_text_names.specs.View.{plain_target}
use Rattle.rr_assign.specs.View.{plain_aim}
use Rattle.rr_assign.proofs.Kinding.{no_aims, part_aims}
use Rattle.rr_assign.proofs.kinds.add_part.Goals as goal

pub returns-in-None : goal.returns-in-None
returns-in-None c = no_aims (plain_flat c.args.flat.now) (map (plain_aim (plain_flat c.args.flat.now)) c.args.list.now.items) c.args.part c.in-None.ensures.none

pub returns-in_ok-add_assigned_targets-in-Some : goal.returns-in_ok-add_assigned_targets-in-Some
returns-in_ok-add_assigned_targets-in-Some c =
    part_aims (plain_flat c.args.flat.now) c.add_assignments.result _ _ c.args.part (plain_block c.in-Some.block) c.is_combinational-combinational.result (map plain_target c.as_slice.result.now) c.in-Some.ensures.some c.is_combinational-combinational.ensures
    (ap (map plain_target) c.as_slice.ensures.value ∙ (c.in_ok-add_assigned_targets-in-Some.ensures ∙ ap (λ z. map plain_target z ++ assigned_by (plain_statement c.in-Some.block.body.now)) c.new-targets.ensures.items))
    c.add_assignments.ensures
