use Rattle.std.proofs.Common.{take}
use Rattle.rr_trail.specs.Trails.{lits}
use Rattle.rr_analysis.specs.Workspaces.{KeepsWalk, Met}
use Rattle.rr_analysis.proofs.workspace.Workspace.meet_all.Given as goal

abbrev pub invariant-loop-lit : goal.invariant-loop-lit
invariant-loop-lit l = record {
  keeps : KeepsWalk l.fn.self l.self;
  met : Met (lits l.watch.trail) l.fn.self (take l.lit-index l.clause) l.self;
}
