use Rattle.rr_memory_gates.proofs.no_word.Goals as goal

pub returns-clause-value : goal.returns-clause-value
returns-clause-value c = record { wires = c.in_ok-out.ensures.value.wires; value = c.in_ok-out.ensures.value.value }
