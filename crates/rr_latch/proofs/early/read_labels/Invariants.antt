use Rattle.rr_latch.proofs.Labels.{LabelsRead}
use Rattle.rr_latch.proofs.early.read_labels.Given as goal

abbrev pub invariant-loop-label : goal.invariant-loop-label
invariant-loop-label l = LabelsRead l.names l.table l.labels l.label-index l.fn.early l.early
