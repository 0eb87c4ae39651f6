use Rattle.std.proofs.Common.{◌<◌, ◌≤◌, length, map, get_or, ap, rules}
use Rattle.std.proofs.lemmas.List.{length-map}
use Rattle.rr_trace.specs.View.{plain_port, plain_ports}
use Rattle.rr_trace.proofs.Placing.{no_own, ports_more, ports_err, placed_all}
use Rattle.rr_trace.proofs.header.input_places.Goals as goal

pub returns-in-None : goal.returns-in-None
returns-in-None c =
    let inside : c.loop-port.port-index < length c.args.ports.now.inputs.items = search rules in
    ports_err (plain_ports c.args.ports.now) c.args.columns.now c.args.ports.now.inputs.items c.loop-port.port-index c.loop-port.places.items no_own (get_or c.deref-port-items.result.now c.loop-port.port-index no_own) inside (ap (λ l. get_or l c.loop-port.port-index no_own) c.deref-port-items.ensures.value) c.loop-port.invariant (λ names same. rw c.in-None.is at (c.place.ensures names same))

pub loop-port-preserved : goal.loop-port-preserved
loop-port-preserved c =
    let inside : c.loop-port.port-index < length c.args.ports.now.inputs.items = search rules in
    rw c.in_ok-push-in-Some.ensures.items
    (ports_more (plain_ports c.args.ports.now) c.args.columns.now c.args.ports.now.inputs.items c.loop-port.port-index c.loop-port.places.items c.in-Some.place no_own (get_or c.deref-port-items.result.now c.loop-port.port-index no_own) inside (ap (λ l. get_or l c.loop-port.port-index no_own) c.deref-port-items.ensures.value) c.loop-port.invariant (λ names same. rw c.in-Some.is at (c.place.ensures names same)))

pub returns : goal.returns
returns c =
    let past : length c.args.ports.now.inputs.items ≤ c.loop-port.port-index = search rules in
    placed_all (plain_ports c.args.ports.now) c.args.columns.now (map plain_port c.args.ports.now.inputs.items) c.loop-port.port-index c.loop-port.places.items (rw (length-map c.args.ports.now.inputs.items plain_port) past) c.loop-port.invariant
