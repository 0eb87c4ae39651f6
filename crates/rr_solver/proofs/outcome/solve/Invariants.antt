use Rattle.std.proofs.Common.{◌≡◌, [], length}
use Rattle.rr_solver.specs.declared.engine.Status.TheVariants.{Running}
use Rattle.rr_solver.proofs.outcome.solve.Given as goal

abbrev pub invariant-loop-number : goal.invariant-loop-number
invariant-loop-number l = record {
  formula : l.solver.formula ≡ l.formula;
  inputs : l.solver.inputs ≡ l.inputs;
  handed : l.solver.handed ≡ [];
  lines : length l.solver.lines ≡ l._number;
  status : l.solver.status ≡ Running;
}
