use Rattle.std.proofs.Common.{◌≡◌, map, drop}
use Rattle.rr_syntax.specs.View.{plain_pair}
use Rattle.rr_flat.specs.Faults.{each}
use Rattle.rr_flatten.specs.Kept.{plain_walked, IsSame}
use Rattle.rr_flatten.specs.Walk.{assign}
use Rattle.rr_flatten.proofs.items.assigns.Given as goal

abbrev pub invariant-loop-pair : goal.invariant-loop-pair
invariant-loop-pair l = record {
  walked : each (assign l.number) (map plain_pair (drop l.pair-index l.pairs)) (plain_walked l.walked) ≡ each (assign l.number) (map plain_pair l.pairs) (plain_walked l.fn.walked);
  same : IsSame l.fn.walked l.walked;
}
