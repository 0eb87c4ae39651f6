use Rattle.std.proofs.Common.{arith}
use Rattle.std.proofs.lemmas.Int.{ints}
use Rattle.rr_word_gates.proofs.SelectLaws.{word_wide, reads_yes, reads_no}
use Rattle.rr_word_gates.proofs.selects.reads.Goals as goal

pub returns-then-not-is_index-clause-value : goal.returns-then-not-is_index-clause-value
returns-then-not-is_index-clause-value c =
    reads_no _ _ _ _ _ _ _ _ _ c.word_of-bits.ensures c.index_of.ensures c.is_index.ensures c.if-not-is_index.true c.constant.ensures.wire c.constant.ensures.value (omega (arith, ints))

pub matches-requires-clause-width : goal.matches-requires-clause-width
matches-requires-clause-width c = word_wide _ _ _ c.word_of-bits.ensures

pub returns-clause-value : goal.returns-clause-value
returns-clause-value c = reads_yes _ _ _ _ _ _ _ _ _ _ c.word_of-bits.ensures c.index_of.ensures c.is_index.ensures c.if-not-is_index.false c.in_ok-out.ensures.value (omega (arith, ints))
