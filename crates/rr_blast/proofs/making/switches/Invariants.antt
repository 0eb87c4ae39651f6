use Rattle.std.proofs.Common.{◌≡◌, ◌+◌, ◌++◌, drop}
use Rattle.rr_choice.specs.Choices.{total_bits}
use Rattle.rr_choice.specs.View.{plain_sites}
use Rattle.rr_transition.specs.Cycles.{switch_places}
use Rattle.rr_blast.proofs.making.switches.Given as goal

abbrev pub invariant-loop-site : goal.invariant-loop-site
invariant-loop-site l = record {
  count : l.at + total_bits (plain_sites (drop l.site-index l.sites)) ≡ total_bits l.list;
  places : l.places.items ++ switch_places l.at (plain_sites (drop l.site-index l.sites)) ≡ switch_places 0 l.list;
}
