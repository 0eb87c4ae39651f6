use Rattle.std.proofs.Common.{◌∙◌, sym, ap, ◌++◌}
use Rattle.rr_syntax.specs.View.{plain_pair}
use Rattle.rr_change_places.specs.Spots.{spots_of_pair}
use Rattle.rr_change_places.specs.View.{plain_spots}
use Rattle.rr_change_places.proofs.Items.{pair_spots}
use Rattle.rr_change_places.proofs.Walks.{one_more_at, all_done, flat_map_map}
use Rattle.rr_change_places.proofs.walk.add_spots_of_pairs.Goals as goal

pub loop-pair-preserved : goal.loop-pair-preserved
loop-pair-preserved c =
    one_more_at (λ x. spots_of_pair (plain_pair x)) (plain_spots c.loop-pair.list.items) _ _ c.args.pairs.now c.loop-pair.pair-index _ c.loop-pair-test.true
    (c.in_ok-add_spots.ensures ∙ ap (λ z. plain_spots c.loop-pair.list.items ++ z) (sym (pair_spots _))) c.loop-pair.invariant

pub returns : goal.returns
returns c =
    all_done (λ x. spots_of_pair (plain_pair x)) (plain_spots c.loop-pair.list.items) _ c.args.pairs.now c.loop-pair.pair-index c.loop-pair-test.false c.loop-pair.invariant
    ∙ ap (λ z. plain_spots c.args.list.now.items ++ z) (flat_map_map spots_of_pair plain_pair c.args.pairs.now)
