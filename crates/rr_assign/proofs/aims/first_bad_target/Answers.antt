use Rattle.std.proofs.Common.{◌∙◌, sym, ap, is_some, None}
use Rattle.std.specs.Prelude.{flat_map}
use Rattle.rr_flat.specs.Lawful.{RightTargets}
use Rattle.rr_flat.specs.View.{plain_flat}
use Rattle.rr_assign.specs.Aims.{bad_of_part, bad_targets}
use Rattle.rr_text_names.specs.Firsts.{earliest}
use Rattle.rr_text_names.proofs.Covering.{has_walk}
use Rattle.rr_assign.proofs.AimLaw.{right_targets, no_bad_targets}
use Rattle.rr_text_names.proofs.Walks.{first_none, first_some, walk_skip_at, walk_hit_at, walk_done}
use Rattle.rr_assign.proofs.aims.first_bad_target.Goals as goal

pub loop-part-init : goal.loop-part-init
loop-part-init c = ap (λ z. earliest (flat_map (bad_of_part (plain_flat c.args.flat.now)) z)) c.parts-walk.ensures.value

pub loop-part-preserved : goal.loop-part-preserved
loop-part-preserved c =
    walk_skip_at (bad_of_part (plain_flat c.args.flat.now)) c.parts-walk.result.now c.loop-part.part-index _ c.loop-part-test.true (ap is_some (sym c.in_ok-found.ensures) ∙ (sym c.is_some.ensures ∙ c.if-is_some.false)) ∙ c.loop-part.invariant

pub returns-then-is_some-clause-first : goal.returns-then-is_some-clause-first
returns-then-is_some-clause-first c =
    c.in_ok-found.ensures ∙ (walk_hit_at (bad_of_part (plain_flat c.args.flat.now)) c.parts-walk.result.now c.loop-part.part-index _ c.loop-part-test.true (ap is_some (sym c.in_ok-found.ensures) ∙ (sym c.is_some.ensures ∙ c.if-is_some.true)) ∙ c.loop-part.invariant)

pub returns-then-is_some-clause-none : goal.returns-then-is_some-clause-none
returns-then-is_some-clause-none c =
    let F = plain_flat c.args.flat.now in
    let w = has_walk c.args.flat.now c.parts-walk.result.now c.parts-walk.ensures.value c.parts-walk.ensures.sound in
    first_none (RightTargets F) (bad_targets F) _ (right_targets F w)
    (c.in_ok-found.ensures ∙ (walk_hit_at (bad_of_part F) c.parts-walk.result.now c.loop-part.part-index _ c.loop-part-test.true (ap is_some (sym c.in_ok-found.ensures) ∙ (sym c.is_some.ensures ∙ c.if-is_some.true)) ∙ c.loop-part.invariant))

pub returns-then-is_some-clause-some : goal.returns-then-is_some-clause-some
returns-then-is_some-clause-some c =
    let F = plain_flat c.args.flat.now in
    let w = has_walk c.args.flat.now c.parts-walk.result.now c.parts-walk.ensures.value c.parts-walk.ensures.sound in
    first_some (RightTargets F) (bad_targets F) _ (no_bad_targets F w)
    (c.in_ok-found.ensures ∙ (walk_hit_at (bad_of_part F) c.parts-walk.result.now c.loop-part.part-index _ c.loop-part-test.true (ap is_some (sym c.in_ok-found.ensures) ∙ (sym c.is_some.ensures ∙ c.if-is_some.true)) ∙ c.loop-part.invariant))

pub returns-clause-first : goal.returns-clause-first
returns-clause-first c = walk_done (bad_of_part (plain_flat c.args.flat.now)) c.parts-walk.result.now c.loop-part.part-index c.loop-part-test.false ∙ c.loop-part.invariant

pub returns-clause-none : goal.returns-clause-none
returns-clause-none c =
    let F = plain_flat c.args.flat.now in
    let w = has_walk c.args.flat.now c.parts-walk.result.now c.parts-walk.ensures.value c.parts-walk.ensures.sound in
    first_none (RightTargets F) (bad_targets F) None (right_targets F w) (walk_done (bad_of_part F) c.parts-walk.result.now c.loop-part.part-index c.loop-part-test.false ∙ c.loop-part.invariant)
