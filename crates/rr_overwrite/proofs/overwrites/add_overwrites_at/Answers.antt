use Rattle.std.proofs.Common.{◌∙◌, ap, ◌++◌, map}
use Rattle.rr_syntax.specs.View.{plain_identifier}
use Rattle.rr_choice.specs.View.{plain_sites}
use Rattle.rr_change_places.specs.View.{plain_spot}
use Rattle.rr_change_places.proofs.Walks.{one_more, all_done, flat_map_map}
use Rattle.rr_guard.specs.Names.{first_names}
use Rattle.rr_overwrite.specs.Overwrites.{overwrites_of}
use Rattle.rr_overwrite.proofs.overwrites.add_overwrites_at.Goals as goal

pub loop-spot-preserved : goal.loop-spot-preserved
loop-spot-preserved c = λ m h.
    one_more (λ x. overwrites_of m c.args.«module» c.args.scope.now (first_names (map plain_identifier c.args.names.now)) (plain_spot x)) (plain_sites c.loop-spot.list.items) _ _ c.args.spots.now c.loop-spot.spot-index c.spot-item.result c.loop-spot-test.true c.spot-item.is
    (c.in_ok-add_overwrites.ensures m h) (c.loop-spot.invariant m h)

pub returns : goal.returns
returns c = λ m h.
    all_done (λ x. overwrites_of m c.args.«module» c.args.scope.now (first_names (map plain_identifier c.args.names.now)) (plain_spot x)) (plain_sites c.loop-spot.list.items) _ c.args.spots.now c.loop-spot.spot-index c.loop-spot-test.false (c.loop-spot.invariant m h)
    ∙ ap (λ z. plain_sites c.args.list.now.items ++ z) (flat_map_map (overwrites_of m c.args.«module» c.args.scope.now (first_names (map plain_identifier c.args.names.now))) plain_spot c.args.spots.now)
