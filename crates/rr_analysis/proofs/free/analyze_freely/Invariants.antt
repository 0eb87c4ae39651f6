use Rattle.std.proofs.Common.{◌≤◌}
use Rattle.rr_analysis.proofs.Walk.{Anything}
use Rattle.rr_analysis.proofs.WalkSteps.{Stand}
use Rattle.rr_analysis.proofs.free.analyze_freely.Given as goal

abbrev pub invariant-loop-place : goal.invariant-loop-place
invariant-loop-place l = record {
  stand : Stand l.watch Anything l.clause.items l.hints.items l.work;
  low : l.level ≤ l.watch.depth;
}

abbrev pub decreases-loop-place : goal.decreases-loop-place
decreases-loop-place l = l.work.top
