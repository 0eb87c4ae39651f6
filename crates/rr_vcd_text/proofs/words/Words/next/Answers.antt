use Rattle.std.proofs.Common.{arith}
use Rattle.rr_vcd_text.proofs.Cutting.{no_word, next_word}
use Rattle.rr_vcd_text.proofs.Passing.{last_stays}
use Rattle.rr_vcd_text.proofs.words.Words.next.Goals as goal

pub returns-then-length-eq0-clause-word : goal.returns-then-length-eq0-clause-word
returns-then-length-eq0-clause-word c =
    no_word _ _ _ _ c.skipped-above.ensures.same (rw c.if-length-eq0.true at c.word_length-length.ensures.ends) c.skipped-above.ensures.word

pub returns-clause-word : goal.returns-clause-word
returns-clause-word c =
    let w = next_word c.args.self.now.rest.now c.skipped-above.result.0.now c.args.self.now.above c.skipped-above.result.1 c.word_length-length.result
    c.skipped-above.ensures.same (omega arith) c.word_length-length.ensures.within c.word_length-length.ensures.same c.word_length-length.ensures.ends in
    rw (c.split_at.ensures.front, c.split_at.ensures.back) w

pub returns-clause-last : goal.returns-clause-last
returns-clause-last c = last_stays _ _ _ _ (returns-clause-word c)
