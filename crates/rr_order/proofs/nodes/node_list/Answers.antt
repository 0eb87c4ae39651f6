use Rattle.std.proofs.Common.{◌≡◌, Some}
use Rattle.rr_flat.specs.View.{plain_flat}
use Rattle.rr_order.specs.Nodes.{widths}
use Rattle.rr_order.proofs.Lists.{added_written}
use Rattle.rr_order.proofs.nodes.node_list.Goals as goal

pub returns : goal.returns
returns c = added_written (widths (plain_flat c.args.flat.now)) c.new-nodes.result.items c.add_bit.new.nodes.items (λ b. c.args.bit ≡ Some b) c.new-nodes.ensures.items c.in_ok-add_bit.ensures
