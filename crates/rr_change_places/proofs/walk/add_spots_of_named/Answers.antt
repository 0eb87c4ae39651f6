use Rattle.std.proofs.Common.{◌∙◌, sym, ap, ◌++◌}
use Rattle.rr_syntax.specs.View.{plain_connection}
use Rattle.rr_change_places.specs.Spots.{spots_of_connection}
use Rattle.rr_change_places.specs.View.{plain_spots}
use Rattle.rr_change_places.proofs.Items.{connection_spots}
use Rattle.rr_change_places.proofs.Walks.{one_more_at, all_done, flat_map_map}
use Rattle.rr_change_places.proofs.walk.add_spots_of_named.Goals as goal

pub loop-one-preserved : goal.loop-one-preserved
loop-one-preserved c =
    one_more_at (λ x. spots_of_connection (plain_connection x)) (plain_spots c.loop-one.list.items) _ _ c.args.named.now c.loop-one.one-index _ c.loop-one-test.true
    (c.in_ok-add_spots_of_value.ensures ∙ ap (λ z. plain_spots c.loop-one.list.items ++ z) (sym (connection_spots _))) c.loop-one.invariant

pub returns : goal.returns
returns c =
    all_done (λ x. spots_of_connection (plain_connection x)) (plain_spots c.loop-one.list.items) _ c.args.named.now c.loop-one.one-index c.loop-one-test.false c.loop-one.invariant
    ∙ ap (λ z. plain_spots c.args.list.now.items ++ z) (flat_map_map spots_of_connection plain_connection c.args.named.now)
