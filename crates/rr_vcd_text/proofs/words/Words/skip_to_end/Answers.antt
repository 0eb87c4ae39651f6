use Rattle.std.proofs.Common.{◌∙◌, arith, rules}
use Rattle.rr_vcd_text.specs.View.{plain_word}
use Rattle.rr_vcd_text.proofs.Passing.{past_here, past_next, past_none}
use Rattle.rr_vcd_text.proofs.words.Words.skip_to_end.Goals as goal

pub returns-then-is_end-clause-words : goal.returns-then-is_end-clause-words
returns-then-is_end-clause-words c =
    c.loop-word.invariant.same ∙ past_here _ _ (plain_word c.in-Some.word) c.in-Some.ensures.word (search (rules, c.is_end.ensures, c.if-is_end.true))

pub loop-word-preserved : goal.loop-word-preserved
loop-word-preserved c = record {
  same = c.loop-word.invariant.same ∙ past_next _ _ (plain_word c.in-Some.word) c.in-Some.ensures.word (search (rules, c.is_end.ensures, c.if-is_end.false));
  last = c.in-Some.ensures.last ∙ c.loop-word.invariant.last;
  fewer = omega (arith, c.in-Some.ensures.kept, c.loop-word.invariant.fewer);
}

pub returns-clause-words : goal.returns-clause-words
returns-clause-words c = c.loop-word.invariant.same ∙ past_none _ c.in_default.ensures.word
