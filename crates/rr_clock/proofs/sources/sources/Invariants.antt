use Rattle.std.proofs.Common.{◌+◌, cond}
use Rattle.rr_flat.specs.View.{plain_flat}
use Rattle.rr_text_names.specs.Names.{entry}
use Rattle.rr_clock.specs.Spread.{missing}
use Rattle.rr_clock.proofs.Spreading.{IsFilling}
use Rattle.rr_clock.proofs.sources.sources.Given as goal

abbrev pub invariant-loop-growing : goal.invariant-loop-growing
invariant-loop-growing l = IsFilling (plain_flat l.flat) (entry l.first) l.table.items l.growing

abbrev pub decreases-loop-growing : goal.decreases-loop-growing
decreases-loop-growing l = missing l.table.items + cond l.growing 1 0
