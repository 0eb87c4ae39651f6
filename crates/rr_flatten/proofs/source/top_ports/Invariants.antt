use Rattle.std.proofs.Common.{◌≡◌, ◌<◌, ◌++◌, map, drop}
use Rattle.std.specs.Prelude.{All}
use Rattle.rr_flat.specs.View.{plain_signal}
use Rattle.rr_flatten.specs.Walk.{top_ports}
use Rattle.rr_flatten.proofs.source.top_ports.Given as goal

abbrev pub invariant-loop-signal : goal.invariant-loop-signal
invariant-loop-signal l = record {
  id : l.id ≡ l.signal-index;
  walked : l.ports.items ++ top_ports l.input l.id (map plain_signal (drop l.signal-index l.signals)) ≡ top_ports l.input 0 (map plain_signal l.signals);
  within : All (λ id. id < l.id) l.ports.items;
}
