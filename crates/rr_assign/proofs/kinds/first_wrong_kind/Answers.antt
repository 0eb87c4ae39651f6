use Rattle.std.proofs.Common.{◌∙◌, ap, map, [], refl}
use Rattle.rr_flat.specs.Lawful.{RightKinds}
use Rattle.rr_flat.specs.View.{plain_flat}
use Rattle.rr_text_names.specs.Firsts.{earliest}
use Rattle.rr_text_names.proofs.Covering.{has_walk}
use Rattle.rr_text_names.proofs.Walks.{first_none, first_some}
use Rattle.rr_assign.specs.Kinds.{wrong_after, wrong_kinds}
use Rattle.rr_assign.specs.View.{plain_aim}
use Rattle.rr_assign.proofs.KindLaw.{right_kinds, no_wrong_kinds}
use Rattle.rr_assign.proofs.kinds.first_wrong_kind.Goals as goal

pub returns-clause-first : goal.returns-clause-first
returns-clause-first c =
    c.first_clash.ensures ∙ ap (λ z. earliest (wrong_after [] z)) (ap (map (plain_aim (plain_flat c.args.flat.now))) c.as_slice.ensures.value ∙ c.in_ok-list.ensures.aims)

pub returns-clause-none : goal.returns-clause-none
returns-clause-none c =
    first_none (RightKinds (plain_flat c.args.flat.now)) (wrong_kinds (plain_flat c.args.flat.now)) c.first_clash.result (right_kinds (plain_flat c.args.flat.now) (has_walk c.args.flat.now c.args.flat.now.walk refl c.in_ok-list.ensures.walked))
    (c.first_clash.ensures ∙ ap (λ z. earliest (wrong_after [] z)) (ap (map (plain_aim (plain_flat c.args.flat.now))) c.as_slice.ensures.value ∙ c.in_ok-list.ensures.aims))

pub returns-clause-some : goal.returns-clause-some
returns-clause-some c =
    first_some (RightKinds (plain_flat c.args.flat.now)) (wrong_kinds (plain_flat c.args.flat.now)) c.first_clash.result (no_wrong_kinds (plain_flat c.args.flat.now) (has_walk c.args.flat.now c.args.flat.now.walk refl c.in_ok-list.ensures.walked))
    (c.first_clash.ensures ∙ ap (λ z. earliest (wrong_after [] z)) (ap (map (plain_aim (plain_flat c.args.flat.now))) c.as_slice.ensures.value ∙ c.in_ok-list.ensures.aims))
