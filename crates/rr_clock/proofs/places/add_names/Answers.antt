use Rattle.std.proofs.Common.{◌≤◌, ◌∙◌, ◌++◌, sym, ap, subst, length, map}
use Rattle.std.specs.Prelude.{flat_map}
use Rattle.rr_flat.specs.View.{plain_signal}
use Rattle.rr_flat.specs.View.{plain_flat}
use Rattle.rr_text_names.specs.Names.{entry, is_the}
use Rattle.rr_text_names.proofs.Walks.{add_done, flat_map_map}
use Rattle.rr_clock.specs.Places.{clock_name}
use Rattle.rr_clock.specs.View.{plain_name}
use Rattle.rr_clock.proofs.places.add_names.Goals as goal

pub returns : goal.returns
returns c =
    sym (add_done (λ s. clock_name (plain_flat c.args.flat.now) (λ x. is_the c.args.clock (entry c.args.table.now x)) (plain_signal s)) (map plain_name c.loop-signal.names.items) c.args.flat.now.signals c.loop-signal.signal-index
    (subst (λ z. length z ≤ c.loop-signal.signal-index) c.signal_list-signal-items.ensures.value c.loop-signal-test.false))
    ∙ (c.loop-signal.invariant ∙ ap (λ z. map plain_name c.args.names.now.items ++ z) (flat_map_map (clock_name (plain_flat c.args.flat.now) (λ x. is_the c.args.clock (entry c.args.table.now x))) plain_signal c.args.flat.now.signals))
