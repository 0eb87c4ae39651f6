use Rattle.rr_check_certificate.proofs.judged.Goals as goal

pub returns-in-Err-journal_in : goal.returns-in-Err-journal_in
returns-in-Err-journal_in g c = c.in-Err-journal_in.ensures.cause c.args.circuit.items (c.in-Ok.ensures c.args.proof.items)
