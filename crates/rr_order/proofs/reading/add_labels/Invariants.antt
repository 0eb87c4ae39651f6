use Rattle.rr_order.proofs.Readings.{LabelsLeft}
use Rattle.rr_order.proofs.reading.add_labels.Given as goal

abbrev pub invariant-loop-label : goal.invariant-loop-label
invariant-loop-label l = LabelsLeft l.names l.labels l.label-index l.fn.list.items l.list.items
