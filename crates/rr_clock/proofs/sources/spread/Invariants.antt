use Rattle.rr_flat.specs.View.{plain_flat}
use Rattle.rr_text_names.specs.Names.{entry}
use Rattle.rr_clock.specs.Spread.{IsSpread}
use Rattle.rr_clock.proofs.sources.spread.Given as goal

abbrev pub invariant-loop-port : goal.invariant-loop-port
invariant-loop-port l = IsSpread (plain_flat l.flat) (entry l.first) l.fn.table.items l.port l.table.items l.grown
