use Rattle.rr_bits.specs.Words.{number}
use Rattle.rr_expr.specs.Operators.{every, parity}
use Rattle.rr_word_gates.proofs.words.of_none.Goals as goal

pub returns-in-And : goal.returns-in-And
unfolding every
returns-in-And c = rw c.in-And.is (record { wire = c.constant.ensures.wire; value = c.constant.ensures.value })

pub returns-in-Or : goal.returns-in-Or
unfolding number
returns-in-Or c = rw c.in-Or.is (record { wire = c.constant-in-Or.ensures.wire; value = c.constant-in-Or.ensures.value })

pub returns-in-Xor : goal.returns-in-Xor
unfolding parity
returns-in-Xor c = rw c.in-Xor.is (record { wire = c.constant-in-Xor.ensures.wire; value = c.constant-in-Xor.ensures.value })
