use Rattle.rr_bits.specs.Fields.{length_word, number_word}
use Rattle.rr_bits.proofs.Numbers.{number-lt, word_number}
use Rattle.rr_bits.proofs.words_are_numbers.Goals as goal

pub returns-clause-width : goal.returns-clause-width
returns-clause-width c = length_word

pub returns-clause-value : goal.returns-clause-value
returns-clause-value c = number_word

pub returns-clause-below : goal.returns-clause-below
returns-clause-below c = number-lt

pub returns-clause-only : goal.returns-clause-only
returns-clause-only c = word_number
