use Rattle.std.proofs.Common.{◌∙◌, sym, ap, subst, length, is_some}
use Rattle.std.specs.Prelude.{flat_map}
use Rattle.rr_flat.specs.Sound.{IsWalk}
use Rattle.rr_flat.specs.View.{plain_flat}
use Rattle.rr_text_names.specs.Firsts.{earliest}
use Rattle.rr_text_names.specs.Names.{entry, is_the}
use Rattle.rr_text_names.proofs.Walks.{walk_skip_at, walk_hit_at, walk_done}
use Rattle.rr_clock.specs.Clock.{uses_of_part}
use Rattle.rr_clock.proofs.uses.first_use_in_walk.Goals as goal

pub loop-part-init : goal.loop-part-init
loop-part-init c = ap (λ z. earliest (flat_map (uses_of_part (plain_flat c.args.flat.now) (λ x. is_the c.args.clock (entry c.args.table.now x))) z)) c.parts-walk.ensures.value

pub loop-part-preserved : goal.loop-part-preserved
loop-part-preserved c =
    walk_skip_at (uses_of_part (plain_flat c.args.flat.now) (λ x. is_the c.args.clock (entry c.args.table.now x))) c.parts-walk.result.now c.loop-part.part-index _ c.loop-part-test.true (ap is_some (sym c.in_ok-found.ensures) ∙ (sym c.is_some.ensures ∙ c.if-is_some.false)) ∙ c.loop-part.invariant

pub returns-then-is_some-clause-first : goal.returns-then-is_some-clause-first
returns-then-is_some-clause-first c =
    c.in_ok-found.ensures ∙ (walk_hit_at (uses_of_part (plain_flat c.args.flat.now) (λ x. is_the c.args.clock (entry c.args.table.now x))) c.parts-walk.result.now c.loop-part.part-index _ c.loop-part-test.true (ap is_some (sym c.in_ok-found.ensures) ∙ (sym c.is_some.ensures ∙ c.if-is_some.true)) ∙ c.loop-part.invariant)

pub returns-clause-first : goal.returns-clause-first
returns-clause-first c = walk_done (uses_of_part (plain_flat c.args.flat.now) (λ x. is_the c.args.clock (entry c.args.table.now x))) c.parts-walk.result.now c.loop-part.part-index c.loop-part-test.false ∙ c.loop-part.invariant

pub returns-then-is_some-clause-walked : goal.returns-then-is_some-clause-walked
returns-then-is_some-clause-walked c = subst (IsWalk (length c.args.flat.now.drivers) (length c.args.flat.now.clocked) (length c.args.flat.now.combinational) (length c.args.flat.now.initials)) c.parts-walk.ensures.value c.parts-walk.ensures.sound

pub returns-clause-walked : goal.returns-clause-walked
returns-clause-walked c = subst (IsWalk (length c.args.flat.now.drivers) (length c.args.flat.now.clocked) (length c.args.flat.now.combinational) (length c.args.flat.now.initials)) c.parts-walk.ensures.value c.parts-walk.ensures.sound
