use Rattle.rr_check_certificate.proofs.Certified.{written_accepted}
use Rattle.rr_repair_output.proofs.certifying.certificate.Goals as goal

pub returns-clause-accepted : goal.returns-clause-accepted
returns-clause-accepted c = λ r w. written_accepted c.args.circuit.now c.args.journal.now c.in_ok-aag.ensures.circuit r w
