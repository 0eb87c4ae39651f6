use Rattle.std.proofs.Common.{◌<◌, length, get_or, refl, rules}
use Rattle.rr_trace.proofs.Placing.{no_own}
use Rattle.rr_trace.proofs.Wide.{widths_more}
use Rattle.rr_trace.proofs.ports.add_widths.Goals as goal

pub loop-port-preserved : goal.loop-port-preserved
loop-port-preserved c =
    let inside : c.loop-port.port-index < length c.args.ports.now = search rules in
    widths_more c.loop-port.widths c.add.new.self c.args.widths.now c.args.ports.now c.loop-port.port-index no_own (get_or c.args.ports.now c.loop-port.port-index no_own) inside refl c.loop-port.invariant c.in_ok-add.ensures
