use Rattle.rr_latch.proofs.Labels.{labels_start, labels_here, labels_more, labels_done}
use Rattle.rr_latch.proofs.early.read_labels.Goals as goal

pub loop-label-init : goal.loop-label-init
loop-label-init c = labels_start c.args.names.now c.args.table.now c.args.labels.now c.args.early.now c.requires

pub read-requires : goal.read-requires
read-requires c =
    labels_here c.args.names.now c.args.table.now c.args.labels.now c.loop-label.label-index c.label-item.result c.args.early.now c.loop-label.early c.loop-label-test.true c.label-item.is c.loop-label.invariant

pub loop-label-preserved : goal.loop-label-preserved
loop-label-preserved c =
    labels_more c.args.names.now c.args.table.now c.args.labels.now c.loop-label.label-index c.label-item.result c.args.early.now c.loop-label.early c.read.new.early
    c.loop-label-test.true c.label-item.is c.loop-label.invariant c.in_ok-read.ensures

pub returns : goal.returns
returns c = labels_done c.args.names.now c.args.table.now c.args.labels.now c.loop-label.label-index c.args.early.now c.loop-label.early c.loop-label-test.false c.loop-label.invariant
