use Rattle.std.proofs.Common.{◌∙◌, ap, ◌++◌, map, drop}
use Rattle.std.specs.Prelude.{flat_map}
use Rattle.rr_syntax.specs.Tree.{Identifier}
use Rattle.rr_syntax.specs.View.{plain_identifier}
use Rattle.rr_change_places.proofs.Walks.{one_more_at, all_done, flat_map_map}
use Rattle.rr_guard.specs.Candidates.{chosen as chosen_of, may_be}
use Rattle.rr_guard.proofs.Lists.{filter_flat}
use Rattle.rr_guard.proofs.candidates.chosen.Goals as goal

pub loop-name-init : goal.loop-name-init
loop-name-init c = ap (λ xs. map plain_identifier xs ++ flat_map (λ x. chosen_of c.args.uses.now c.args.clocked (plain_identifier x)) (drop 0 c.args.names.now)) c.new-list.ensures.items

pub loop-name-preserved : goal.loop-name-preserved
loop-name-preserved c =
    one_more_at (λ x. chosen_of c.args.uses.now c.args.clocked (plain_identifier x)) (map plain_identifier c.loop-name.list.items) _ _ c.args.names.now c.loop-name.name-index _ c.loop-name-test.true c.in_ok-add_chosen.ensures c.loop-name.invariant

pub returns : goal.returns
returns c =
    all_done (λ x. chosen_of c.args.uses.now c.args.clocked (plain_identifier x)) (map plain_identifier c.loop-name.list.items) _ c.args.names.now c.loop-name.name-index c.loop-name-test.false c.loop-name.invariant
    ∙ (flat_map_map (chosen_of c.args.uses.now c.args.clocked) plain_identifier c.args.names.now ∙ filter_flat (λ (x : Identifier). may_be c.args.uses.now c.args.clocked x.text) (map plain_identifier c.args.names.now))
