use Rattle.std.proofs.Common.{arith, map}
use Rattle.rr_sort.specs.Graphs.{names_of}
use Rattle.rr_sort.proofs.Sorting.{graph_count, mark_is}
use Rattle.rr_sort.proofs.Searching.{lowest_found, none_more, none_left}
use Rattle.rr_sort.proofs.search.lowest_cycle.Goals as goal
use Rattle.rr_sort.proofs.search.lowest_cycle.Goals.{then-not-index+in_ok-cycle+in-None, else-not-index}

pub returns-in-Some : goal.returns-in-Some
returns-in-Some c = lowest_found (map names_of c.args.graph.now) c.loop-node.node c.in-Some.cycle.items c.loop-node.invariant (rw c.in-Some.is at c.in_ok-cycle.ensures)

pub loop-node-preserved : goal.loop-node-preserved
loop-node-preserved c = elim c.if-not-index.branch [
  | then-not-index+in_ok-cycle+in-None w ↦ none_more (map names_of c.args.graph.now) c.loop-node.node c.loop-node.invariant (rw w.in-None.is at w.in_ok-cycle.ensures)
  | else-not-index w ↦ none_more (map names_of c.args.graph.now) c.loop-node.node c.loop-node.invariant
      (c.in_ok-off.ensures.none c.loop-node.node (rw (mark_is c.in_ok-off.off.items c.loop-node.node c.index.result.now (omega (arith, c.in_ok-off.ensures.count, graph_count c.args.graph.now)) c.index.ensures) w.if-not-index.false))
]

pub returns : goal.returns
returns c = absurd (none_left (map names_of c.args.graph.now) (λ v l. c.loop-node.invariant v (omega (arith, graph_count c.args.graph.now))) c.requires.some.0 c.requires.some.1)
