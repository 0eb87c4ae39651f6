use Rattle.rr_analysis.specs.Analysis.{Greatest}
use Rattle.rr_analysis.proofs.Walk.{StaysAt}
use Rattle.rr_analysis.proofs.WalkSteps.{Stand}
use Rattle.rr_analysis.proofs.analysis.analyze.Given as goal

abbrev pub invariant-loop-place : goal.invariant-loop-place
invariant-loop-place l = record {
  stand : Stand l.watch (StaysAt l.watch.depth) l.clause.items l.hints.items l.work;
  greatest : Greatest l.watch.trail l.watch.depth l.clause.items l.level;
}

abbrev pub decreases-loop-place : goal.decreases-loop-place
decreases-loop-place l = l.work.top
