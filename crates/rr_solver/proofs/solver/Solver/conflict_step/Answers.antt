use Rattle.std.proofs.Common.{subst}
use Rattle.std.specs.Prelude.{IfOk}
use Rattle.rr_solver.specs.Engines.{search_of}
use Rattle.rr_solver.specs.Searches.{SteppedIs}
use Rattle.rr_solver.proofs.solver.Solver.conflict_step.Goals as goal

pub returns-in-Running-clause-running : goal.returns-in-Running-clause-running
returns-in-Running-clause-running c = λ r. subst (λ v. IfOk c.step.result (SteppedIs v (search_of c.step.new.self))) c.self.view_is c.step.ensures.result
