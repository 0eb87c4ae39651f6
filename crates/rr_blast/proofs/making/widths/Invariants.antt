use Rattle.std.proofs.Common.{◌≡◌, take}
use Rattle.rr_flat.specs.View.{plain_flat}
use Rattle.rr_transition.specs.Cycles.{widths_of}
use Rattle.rr_blast.proofs.making.widths.Given as goal

abbrev pub invariant-loop-id : goal.invariant-loop-id
invariant-loop-id l = l.list.items ≡ widths_of (plain_flat l.flat) (take l.id-index l.ids)
