use Rattle.std.proofs.Common.{ℕ, ap, sym, subst}
use Rattle.rr_cnf.specs.Partial.{Determined}
use Rattle.rr_repair_tests.proofs.members.circuit_is_open.Goals as goal

pub leave_open-requires-clause-determined : goal.leave_open-requires-clause-determined
leave_open-requires-clause-determined g c κs within =
    subst (λ (n : ℕ). Determined c.in_ok-formula.formula n) (sym (ap (λ x. x.netlist.inputs) c.circuit.view_is)) c.in_ok-formula.ensures.determined
