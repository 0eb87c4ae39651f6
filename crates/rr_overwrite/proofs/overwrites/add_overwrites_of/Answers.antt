use Rattle.std.proofs.Common.{◌∙◌, ap, ◌++◌, ◌∷◌, [], if◌then◌else◌, map}
use Rattle.rr_syntax.specs.View.{plain_statement, texts}
use Rattle.rr_choice.specs.View.{plain_sites}
use Rattle.rr_change_places.proofs.Walks.{one_more_at, all_done, flat_map_map}
use Rattle.rr_overwrite.specs.Overwrites.{Target, overwrite_of}
use Rattle.rr_overwrite.specs.Variables.{may_be, plain_whole}
use Rattle.rr_overwrite.proofs.Listed.{map_filter}
use Rattle.rr_overwrite.proofs.overwrites.add_overwrites_of.Goals as goal

pub loop-target-preserved : goal.loop-target-preserved
loop-target-preserved c =
    one_more_at (λ x. if may_be c.args.variables.now (plain_whole x) then overwrite_of c.args.«module» c.args.scope.now (texts c.args.names.now) (plain_statement c.args.body.now) (plain_whole x) ∷ [] else [])
    (plain_sites c.loop-target.list.items) _ _ c.args.targets.now c.loop-target.target-index _ c.loop-target-test.true c.in_ok-add_overwrite.ensures c.loop-target.invariant

pub returns : goal.returns
returns c =
    all_done (λ x. if may_be c.args.variables.now (plain_whole x) then overwrite_of c.args.«module» c.args.scope.now (texts c.args.names.now) (plain_statement c.args.body.now) (plain_whole x) ∷ [] else [])
    (plain_sites c.loop-target.list.items) _ c.args.targets.now c.loop-target.target-index c.loop-target-test.false c.loop-target.invariant
    ∙ ap (λ z. plain_sites c.args.list.now.items ++ z)
    (flat_map_map (λ (t : Target). if may_be c.args.variables.now t then overwrite_of c.args.«module» c.args.scope.now (texts c.args.names.now) (plain_statement c.args.body.now) t ∷ [] else []) plain_whole c.args.targets.now
    ∙ map_filter (overwrite_of c.args.«module» c.args.scope.now (texts c.args.names.now) (plain_statement c.args.body.now)) (may_be c.args.variables.now) (map plain_whole c.args.targets.now))
