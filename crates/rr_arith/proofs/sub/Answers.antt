use Rattle.std.proofs.Common.{◌∙◌, ap}
use Rattle.rr_circuit.specs.Values.{wire_values}
use Rattle.rr_arith.proofs.Ripple.{difference_word}
use Rattle.rr_arith.proofs.sub.Goals as goal

pub returns-clause-value : goal.returns-clause-value
returns-clause-value c = λ env.
    difference_word _ _ env _ _ _ _ _ (c.constant-carry.ensures.value env) (ap (wire_values _ env) c.as_slice.ensures.value ∙ c.in_ok-rest.ensures.value env) c.requires.widths c.in_ok-sums.ensures.width (c.in_ok-sums.ensures.value env)
