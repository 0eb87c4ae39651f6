use Rattle.std.proofs.Common.{◌∙◌, ap, List, Bool, false, get_or}
use Rattle.rr_circuit.specs.Values.{wire_values}
use Rattle.rr_blast_steps.proofs.wiring.whole_wire.Goals as goal

pub returns-clause-value : goal.returns-clause-value
returns-clause-value c = λ env.
    c.bit_at-wire.ensures.value env
    ∙ ap (λ (bs : List Bool). get_or bs c.args.place false) (ap (wire_values c.driver_wires.new.b env) c.as_slice.ensures.value ∙ c.in_ok-bits.ensures.value env)
