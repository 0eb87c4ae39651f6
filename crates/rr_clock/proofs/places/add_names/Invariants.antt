use Rattle.std.proofs.Common.{◌≡◌, ◌++◌, map, drop}
use Rattle.std.specs.Prelude.{flat_map}
use Rattle.rr_flat.specs.View.{plain_signal}
use Rattle.rr_flat.specs.View.{plain_flat}
use Rattle.rr_text_names.specs.Names.{entry, is_the}
use Rattle.rr_clock.specs.Places.{clock_name}
use Rattle.rr_clock.specs.View.{plain_name}
use Rattle.rr_clock.proofs.places.add_names.Given as goal

abbrev pub invariant-loop-signal : goal.invariant-loop-signal
invariant-loop-signal l =
    map plain_name l.names.items ++ flat_map (λ s. clock_name (plain_flat l.flat) (λ x. is_the l.clock (entry l.table x)) (plain_signal s)) (drop l.signal-index l.flat.signals)
    ≡ map plain_name l.fn.names.items ++ flat_map (λ s. clock_name (plain_flat l.flat) (λ x. is_the l.clock (entry l.table x)) (plain_signal s)) l.flat.signals
