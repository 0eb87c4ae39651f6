use Rattle.std.proofs.Common.{◌∙◌, ap, length}
use Rattle.rr_bits.specs.Fields.{length_word}
use Rattle.rr_blast.proofs.beginning.start_word.Goals as goal

pub returns-clause-size : goal.returns-clause-size
returns-clause-size c = c.in_ok-word.ensures.width ∙ ap length c.from_u128.ensures ∙ length_word c.args.width c.args.number

pub returns-clause-wires : goal.returns-clause-wires
returns-clause-wires c = c.in_ok-word.ensures.value.wires

pub returns-clause-value : goal.returns-clause-value
returns-clause-value c = λ env. c.in_ok-word.ensures.value.value env ∙ c.from_u128.ensures
