use Rattle.rr_circuit.proofs.AagParts.{GatesRead-more, gates_wrong}
use Rattle.rr_circuit.proofs.aag.read_gates.Goals as goal

pub returns-in-None-clause-err : goal.returns-in-None-clause-err
returns-in-None-clause-err c = gates_wrong _ _ _ _ _ c.loop-k.invariant c.loop-k-test.true c.in-None.ensures.none

pub loop-k-preserved : goal.loop-k-preserved
loop-k-preserved c = rw c.in_ok-push-in-Some.ensures.items (GatesRead-more _ _ _ _ _ _ _ c.loop-k.invariant c.in-Some.ensures.known c.in-Some.ensures.some)
