use Rattle.rr_check_certificate.proofs.Certified.{sound_of}
use Rattle.rr_check_certificate.proofs.judge.Goals as goal

pub returns-clause-sound : goal.returns-clause-sound
returns-clause-sound g c = sound_of c.args.circuit.items c.args.proof.items c.judged.result c.judged.ensures
