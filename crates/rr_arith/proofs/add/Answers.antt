use Rattle.rr_arith.proofs.Ripple.{sum_word}
use Rattle.rr_arith.proofs.add.Goals as goal

pub returns-clause-value : goal.returns-clause-value
returns-clause-value c = λ env. sum_word _ _ env _ _ _ _ (c.constant-carry.ensures.value env) c.in_ok-sums.ensures.width (c.in_ok-sums.ensures.value env)
