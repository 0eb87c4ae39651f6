use Rattle.std.proofs.Common.{arith}
use Rattle.rr_flat.specs.View.{plain_flat}
use Rattle.rr_text_names.specs.Names.{entry}
use Rattle.rr_clock.proofs.Spreading.{spread_start, spread_step}
use Rattle.rr_clock.proofs.sources.spread.Goals as goal

pub loop-port-init : goal.loop-port-init
loop-port-init c = spread_start (plain_flat c.args.flat.now) (entry c.args.first.now) c.args.table.now.items c.requires.sound

pub loop-port-preserved : goal.loop-port-preserved
loop-port-preserved c =
    spread_step (plain_flat c.args.flat.now) (entry c.args.first.now) c.args.table.now.items c.loop-port.port c.loop-port.table.items c.as_slice.result.now c.fill-grown.new.table.items c.loop-port.grown c.fill-grown.result c.next_source-source.result c.requires.first
    (omega (arith, c.loop-port.invariant.size, c.requires.size, c.loop-port-test.true, c.signal_count-port-end.ensures.value)) c.loop-port.invariant c.as_slice.ensures.value c.next_source-source.ensures c.fill-grown.ensures.table c.fill-grown.ensures.grown
