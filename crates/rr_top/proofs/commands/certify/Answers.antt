use Rattle.rr_top.proofs.commands.certify.Goals as goal

pub returns-in-Err : goal.returns-in-Err
returns-in-Err g c = c.stop_of_certificate.ensures c.args.circuit.items c.args.proof.items c.in-Err.ensures.answer
