use Rattle.std.proofs.Common.{ap, subst, sym}
use Rattle.rr_cnf.specs.Partial.{Determined}
use Rattle.rr_proof_tests.proofs.circuits.end.Goals as goal

pub end_of-requires-clause-determined : goal.end_of-requires-clause-determined
end_of-requires-clause-determined c = subst (Determined c.in_ok-formula.formula) (sym (ap (λ v. v.netlist.inputs) c.circuit.view_is)) c.in_ok-formula.ensures.determined
