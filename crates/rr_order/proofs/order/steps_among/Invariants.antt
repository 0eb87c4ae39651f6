use Rattle.std.proofs.Common.{◌≡◌, ◌++◌, drop}
use Rattle.rr_flat.specs.declared.design.Step.TheVariants as design_step
use Rattle.rr_order.specs.Nodes.{steps_in}
use Rattle.rr_order.proofs.order.steps_among.Given as goal

abbrev pub invariant-loop-node : goal.invariant-loop-node
invariant-loop-node l = l.sorted.items ++ steps_in (design_step.Block 0) l.first l.steps (drop l.node-index l.order) ≡ steps_in (design_step.Block 0) l.first l.steps l.order
