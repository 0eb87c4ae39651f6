use Rattle.std.proofs.Common.{◌∙◌, ap, ◌++◌}
use Rattle.rr_choice.specs.View.{plain_sites}
use Rattle.rr_change_places.specs.View.{plain_spot}
use Rattle.rr_change_places.proofs.Walks.{one_more, all_done, flat_map_map}
use Rattle.rr_literal.specs.Literals.{literal_at}
use Rattle.rr_literal.proofs.literals.add_literals.Goals as goal

pub loop-spot-preserved : goal.loop-spot-preserved
loop-spot-preserved c =
    one_more (λ x. literal_at (plain_spot x)) (plain_sites c.loop-spot.list.items) _ _ c.args.spots.now c.loop-spot.spot-index c.spot-item.result c.loop-spot-test.true c.spot-item.is c.in_ok-add_literal.ensures
    c.loop-spot.invariant

pub returns : goal.returns
returns c =
    all_done (λ x. literal_at (plain_spot x)) (plain_sites c.loop-spot.list.items) _ c.args.spots.now c.loop-spot.spot-index c.loop-spot-test.false c.loop-spot.invariant
    ∙ ap (λ z. plain_sites c.args.list.now.items ++ z) (flat_map_map literal_at plain_spot c.args.spots.now)
