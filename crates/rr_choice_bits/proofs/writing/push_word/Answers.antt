use Rattle.std.proofs.Common.{◌∙◌, ◌++◌, false, ap, get_or, sym, append-nil}
use Rattle.rr_bits.specs.Words.{word}
use Rattle.rr_choice_bits.proofs.CodeLaws.{word_more, word_all}
use Rattle.rr_choice_bits.proofs.writing.push_word.Goals as goal

pub returns-then-width-eq0 : goal.returns-then-width-eq0
unfolding word
returns-then-width-eq0 c = sym (ap (λ w. c.args.bits.now.items ++ word w c.args.number) c.if-width-eq0.true ∙ append-nil c.args.bits.now.items)

pub loop-place-preserved : goal.loop-place-preserved
loop-place-preserved c =
    c.in_ok-push.ensures.items
    ∙ word_more c.loop-place.bits.items c.args.bits.now.items c.args.width c.args.number c.loop-place.place c.get.result c.loop-place-test.true c.loop-place.invariant
    (c.get.ensures ∙ ap (λ w. get_or w c.loop-place.place false) c.from_u128-word.ensures)

pub returns : goal.returns
returns c = c.loop-place.invariant ∙ word_all c.args.bits.now.items c.args.width c.args.number c.loop-place.place c.loop-place-test.false
