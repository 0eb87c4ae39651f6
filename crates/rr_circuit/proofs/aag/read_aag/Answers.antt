use Rattle.rr_circuit.proofs.AagWhole.{reads_back, reads_text}
use Rattle.rr_circuit.proofs.aag.read_aag.Goals as goal

pub returns-clause-text : goal.returns-clause-text
returns-clause-text c = reads_text _ _ c.read_text.ensures.circuit c.read_text.ensures.lawful

pub returns-clause-back : goal.returns-clause-back
returns-clause-back c = reads_back _ _ c.read_text.ensures.circuit c.read_text.ensures.lawful c.read_text.ensures.cause
