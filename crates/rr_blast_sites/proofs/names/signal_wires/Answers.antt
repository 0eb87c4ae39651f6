use Rattle.std.proofs.Common.{ap, ◌∙◌}
use Rattle.rr_circuit.specs.Values.{wire_values}
use Rattle.rr_blast_sites.proofs.SignalLaws.{signal_at, signal_past}
use Rattle.rr_blast_sites.proofs.names.signal_wires.Goals as goal

pub returns-in-Some-clause-value : goal.returns-in-Some-clause-value
returns-in-Some-clause-value c = λ n input. ap (wire_values n input) c.as_slice.ensures.value ∙ signal_at n input _ _ _ c.in-Some.ensures.lookup.3.0 c.in-Some.ensures.lookup.1

pub returns-in-None-clause-value : goal.returns-in-None-clause-value
returns-in-None-clause-value c = λ n input. signal_past n input _ _ c.in-None.ensures.lookup.3
