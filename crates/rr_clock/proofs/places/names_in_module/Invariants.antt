use Rattle.std.proofs.Common.{◌≡◌, map, drop}
use Rattle.std.specs.Prelude.{fold}
use Rattle.rr_syntax.specs.View.{texts}
use Rattle.rr_clock.specs.Places.{clock_set, names_in, with_clock}
use Rattle.rr_clock.specs.View.{plain_name}
use Rattle.rr_clock.proofs.places.names_in_module.Given as goal

abbrev pub invariant-loop-clock : goal.invariant-loop-clock
invariant-loop-clock l = record {
  same : texts l.list.items ≡ names_in l.set;
  folded : fold (with_clock l.owner) l.set (map plain_name (drop l.clock-index l.names)) ≡ clock_set l.owner (map plain_name l.names);
}
