use Rattle.std.proofs.Common.{◌+◌, ◌*◌}
use Rattle.std.specs.Prelude.{max}
use Rattle.rr_syntax.specs.declared.tree.Stmt.{size-Stmt}
use Rattle.rr_latch.specs.Paths.{assigned}
use Rattle.rr_latch.proofs.Branching.{AllRun, ArmsRun}
use Rattle.rr_latch.proofs.branches.+paths.Given as goal

abbrev pub invariant-run_all-loop-stmt : goal.invariant-run_all-loop-stmt
invariant-run_all-loop-stmt l = AllRun l.later l.names (assigned l.fn.path.unassigned) l.body l.stmt-index (assigned l.path.unassigned) l.fn.path.log.items l.path.log.items l.fn.early l.early

abbrev pub invariant-run_arms-loop-arm : goal.invariant-run_arms-loop-arm
invariant-run_arms-loop-arm l = ArmsRun l.later l.names (assigned l.fn.path.unassigned) l.arms l.arm-index l.common (assigned l.path.unassigned) l.fn.path.log.items l.path.log.items l.fn.early l.early

abbrev pub decreases-run : goal.decreases-run
decreases-run l = 3 * goal.size-run l

abbrev pub decreases-branch : goal.decreases-branch
decreases-branch l = 3 * goal.size-branch l + 1

abbrev pub decreases-run_if : goal.decreases-run_if
decreases-run_if l = 3 * goal.size-run_if l + 2

abbrev pub decreases-run_if_else : goal.decreases-run_if_else
decreases-run_if_else l = 3 * max (size-Stmt l.yes.now) (size-Stmt l.no.now) + 2

abbrev pub decreases-run_all : goal.decreases-run_all
decreases-run_all l = 3 * goal.size-run_all l + 2

abbrev pub decreases-run_arms : goal.decreases-run_arms
decreases-run_arms l = 3 * goal.size-run_arms l + 2
