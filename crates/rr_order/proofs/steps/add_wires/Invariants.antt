use Rattle.rr_flat.specs.View.{plain_flat}
use Rattle.rr_order.specs.Nodes.{IsStepGraph, StepsTo}
use Rattle.rr_order.proofs.steps.add_wires.Given as goal

abbrev pub invariant-loop-place : goal.invariant-loop-place
invariant-loop-place l = IsStepGraph (plain_flat l.flat) (StepsTo l.number l.place 0) l.nodes.steps.items l.nodes.rows.items
