use Rattle.std.proofs.Common.{◌≡◌, map, drop}
use Rattle.rr_syntax.specs.View.{plain_edge}
use Rattle.rr_flat.specs.View.{plain_flat}
use Rattle.rr_text_names.specs.Names.{entry}
use Rattle.rr_clock.specs.Found.{any_runs}
use Rattle.rr_clock.proofs.clock.runs_on.Given as goal

abbrev pub invariant-loop-edge : goal.invariant-loop-edge
invariant-loop-edge l =
    any_runs (plain_flat l.flat) (entry l.table) l.clock l.rising l.scope (map plain_edge (drop l.edge-index l.edges)) ≡ any_runs (plain_flat l.flat) (entry l.table) l.clock l.rising l.scope (map plain_edge l.edges)
