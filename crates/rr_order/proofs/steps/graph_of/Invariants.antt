use Rattle.std.proofs.Common.{◌≡◌, ◌≤◌, ℕ, length, get_or}
use Rattle.rr_flat.specs.View.{plain_flat}
use Rattle.rr_order.specs.Nodes.{IsStepGraph, StepsTo, total, widths}
use Rattle.rr_order.proofs.steps.graph_of.Given as goal

abbrev pub invariant-loop-driver : goal.invariant-loop-driver
invariant-loop-driver l = IsStepGraph (plain_flat l.flat) (StepsTo l.driver 0 0) l.nodes.steps.items l.nodes.rows.items

abbrev pub invariant-loop-block : goal.invariant-loop-block
invariant-loop-block l =
    IsStepGraph (plain_flat l.flat) (StepsTo (length l.flat.drivers) 0 l.block) l.nodes.steps.items l.nodes.rows.items
    × (length l.own.items ≡ total (widths (plain_flat l.flat))) × ((v : ℕ) → get_or l.own.items v 0 ≤ l.block)
