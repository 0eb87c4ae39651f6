use Rattle.std.proofs.Common.{◌<◌, length, get_or, ap, rules}
use Rattle.rr_trace.specs.View.{plain_ports}
use Rattle.rr_trace.proofs.Placing.{no_own, outputs_more}
use Rattle.rr_trace.proofs.header.output_places.Goals as goal

pub loop-port-preserved : goal.loop-port-preserved
loop-port-preserved c =
    let inside : c.loop-port.port-index < length c.args.ports.now.outputs.items = search rules in
    rw c.in_ok-push.ensures.items
    (outputs_more (plain_ports c.args.ports.now) c.args.columns.now c.args.ports.now.outputs.items c.loop-port.port-index c.loop-port.places.items _ no_own (get_or c.deref-port-items.result.now c.loop-port.port-index no_own) inside (ap (λ l. get_or l c.loop-port.port-index no_own) c.deref-port-items.ensures.value) c.loop-port.invariant c.place.ensures)
