use Rattle.std.proofs.Common.{map}
use Rattle.rr_flat.specs.View.{plain_flat}
use Rattle.rr_sort.specs.Graphs.{names_of}
use Rattle.rr_order.specs.Nodes.{widths}
use Rattle.rr_order.proofs.Building.{HasSignals}
use Rattle.rr_order.proofs.graph.without_steps.Given as goal

abbrev pub invariant-loop-signal : goal.invariant-loop-signal
invariant-loop-signal l = HasSignals (widths (plain_flat l.flat)) l.signal (map names_of l.rows.items)
