use Rattle.std.proofs.Common.{◌≡◌, ◌≤◌, ◌<◌, ◌⊎◌}
use Rattle.rr_flat.specs.View.{plain_flat}
use Rattle.rr_order.specs.Nodes.{Added, Foreign, widths}
use Rattle.rr_order.proofs.nodes.add_places.Given as goal

abbrev pub invariant-loop-place : goal.invariant-loop-place
invariant-loop-place l =
    Added (widths (plain_flat l.flat)) l.fn.nodes.items l.nodes.items (λ b. (b.signal ≡ l.signal) × ((l.fn.places.0 ≤ b.place) × ((b.place < l.place) × Foreign (widths (plain_flat l.flat)) l.own.items l.stamp b)))
    × ((l.place ≡ l.fn.places.0) ⊎ (l.place ≤ l.fn.places.1))
