use Rattle.rr_order.proofs.Readings.{labels_start, labels_here, labels_more, labels_done}
use Rattle.rr_order.proofs.reading.add_labels.Goals as goal

pub loop-label-init : goal.loop-label-init
loop-label-init c = labels_start c.args.names.now c.args.labels.now c.args.list.now.items c.requires

pub add_named_bits-requires : goal.add_named_bits-requires
add_named_bits-requires c = labels_here c.args.names.now c.args.labels.now c.loop-label.label-index c.label-item.result c.args.list.now.items c.loop-label.list.items c.loop-label-test.true c.label-item.is c.loop-label.invariant

pub loop-label-preserved : goal.loop-label-preserved
loop-label-preserved c = labels_more c.args.names.now c.args.labels.now c.loop-label.label-index c.label-item.result c.args.list.now.items c.loop-label.list.items _ c.loop-label-test.true c.label-item.is c.loop-label.invariant c.in_ok-add_named_bits.ensures

pub returns : goal.returns
returns c = labels_done c.args.names.now c.args.labels.now c.loop-label.label-index c.args.list.now.items c.loop-label.list.items c.loop-label-test.false c.loop-label.invariant
