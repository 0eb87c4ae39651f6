use Rattle.std.proofs.Common.{◌∙◌, sym, ap, ◌+◌}
use Rattle.rr_flatten.proofs.Ends.{ports_more, ports_done, within_more}
use Rattle.rr_flatten.proofs.source.top_ports.Goals as goal

pub loop-signal-preserved : goal.loop-signal-preserved
loop-signal-preserved c = record {
  id = ap (λ k. k + 1) c.loop-signal.invariant.id;
  walked = ports_more c.args.input c.args.signals.now c.loop-signal.signal-index _ c.loop-signal.id _ c.loop-signal.ports.items c.push_if.new.numbers.items c.loop-signal-test.true c.is_top.ensures c.in_ok-push_if.ensures ∙ c.loop-signal.invariant.walked;
  within = within_more _ c.loop-signal.ports.items c.push_if.new.numbers.items c.loop-signal.id c.in_ok-push_if.ensures c.loop-signal.invariant.within;
}

pub returns-clause-value : goal.returns-clause-value
returns-clause-value c = sym (ports_done c.args.input c.args.signals.now c.loop-signal.signal-index c.loop-signal.id c.loop-signal.ports.items c.loop-signal-test.false) ∙ c.loop-signal.invariant.walked
