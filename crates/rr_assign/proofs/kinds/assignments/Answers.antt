use Rattle.std.proofs.Common.{◌∙◌, sym, subst, length, map}
use Rattle.rr_flat.specs.Sound.{IsWalk}
use Rattle.rr_flat.specs.View.{plain_flat}
use Rattle.rr_text_names.proofs.Walks.{add_done}
use Rattle.rr_assign.specs.Kinds.{aims_of_part}
use Rattle.rr_assign.specs.View.{plain_aim}
use Rattle.rr_assign.proofs.kinds.assignments.Goals as goal

pub returns-clause-aims : goal.returns-clause-aims
returns-clause-aims c =
    sym (add_done (aims_of_part (plain_flat c.args.flat.now)) (map (plain_aim (plain_flat c.args.flat.now)) c.loop-part.list.items) c.parts-walk.result.now c.loop-part.part-index c.loop-part-test.false) ∙ c.loop-part.invariant

pub returns-clause-walked : goal.returns-clause-walked
returns-clause-walked c = subst (IsWalk (length c.args.flat.now.drivers) (length c.args.flat.now.clocked) (length c.args.flat.now.combinational) (length c.args.flat.now.initials)) c.parts-walk.ensures.value c.parts-walk.ensures.sound
