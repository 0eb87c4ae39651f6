use Rattle.std.proofs.Common.{◌∙◌, sym, ap, is_some}
use Rattle.rr_flat.specs.View.{plain_flat}
use Rattle.rr_text_names.proofs.Walks.{walk_skip_at, walk_hit_at, walk_done}
use Rattle.rr_assign.specs.Aims.{bad_assigned}
use Rattle.rr_text_names.specs.View.{plain_target}
use Rattle.rr_assign.proofs.aims.first_bad_assigned.Goals as goal

pub loop-target-preserved : goal.loop-target-preserved
loop-target-preserved c =
    walk_skip_at (λ t. bad_assigned c.args.starting (plain_flat c.args.flat.now) c.args.scope (plain_target t)) c.args.targets.now c.loop-target.target-index _ c.loop-target-test.true (ap is_some (sym c.bad_target-found.ensures) ∙ (sym c.is_some.ensures ∙ c.if-is_some.false)) ∙ c.loop-target.invariant

pub returns-then-is_some : goal.returns-then-is_some
returns-then-is_some c =
    c.bad_target-found.ensures ∙ (walk_hit_at (λ t. bad_assigned c.args.starting (plain_flat c.args.flat.now) c.args.scope (plain_target t)) c.args.targets.now c.loop-target.target-index _ c.loop-target-test.true (ap is_some (sym c.bad_target-found.ensures) ∙ (sym c.is_some.ensures ∙ c.if-is_some.true)) ∙ c.loop-target.invariant)

pub returns : goal.returns
returns c = walk_done (λ t. bad_assigned c.args.starting (plain_flat c.args.flat.now) c.args.scope (plain_target t)) c.args.targets.now c.loop-target.target-index c.loop-target-test.false ∙ c.loop-target.invariant
