use Rattle.std.proofs.Common.{◌∙◌, sym, ap, ◌++◌}
use Rattle.rr_syntax.specs.View.{plain_declarator}
use Rattle.rr_change_places.specs.Spots.{spots_of_net}
use Rattle.rr_change_places.specs.View.{plain_spots}
use Rattle.rr_change_places.proofs.Items.{net_spots}
use Rattle.rr_change_places.proofs.Walks.{one_more_at, all_done, flat_map_map}
use Rattle.rr_change_places.proofs.walk.add_spots_of_nets.Goals as goal

pub loop-net-preserved : goal.loop-net-preserved
loop-net-preserved c =
    one_more_at (λ x. spots_of_net (plain_declarator x)) (plain_spots c.loop-net.list.items) _ _ c.args.nets.now c.loop-net.net-index _ c.loop-net-test.true
    (c.in_ok-add_spots_of_value.ensures ∙ ap (λ z. plain_spots c.loop-net.list.items ++ z) (sym (net_spots _))) c.loop-net.invariant

pub returns : goal.returns
returns c =
    all_done (λ x. spots_of_net (plain_declarator x)) (plain_spots c.loop-net.list.items) _ c.args.nets.now c.loop-net.net-index c.loop-net-test.false c.loop-net.invariant
    ∙ ap (λ z. plain_spots c.args.list.now.items ++ z) (flat_map_map spots_of_net plain_declarator c.args.nets.now)
