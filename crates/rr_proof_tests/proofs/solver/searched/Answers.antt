use Rattle.rr_proof_tests.proofs.solver.searched.Goals as goal

pub returns : goal.returns
returns c = c.in_ok-conflict_step.ensures.same.formula
