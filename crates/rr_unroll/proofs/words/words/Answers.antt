use Rattle.std.proofs.Common.{◌∙◌, ◌+◌, ◌++◌, ap, drop, get_or}
use Rattle.rr_bits.specs.Words.{word}
use Rattle.rr_transition.specs.Transitions.{words}
use Rattle.rr_unroll.proofs.WordLaws.{words_more, words_all}
use Rattle.rr_unroll.proofs.words.words.Goals as goal

pub loop-k-preserved : goal.loop-k-preserved
loop-k-preserved c =
    let ws = c.args.widths.now in
    let ns = c.args.numbers.now in
    let k = c.loop-k.k in
    ap (λ xs. xs ++ words (drop (k + 1) ws) (drop (k + 1) ns)) (c.in_ok-push_word.ensures ∙ ap (λ n. c.loop-k.out.items ++ word (get_or ws k 0) n) c.number_at.ensures)
    ∙ words_more c.loop-k.out.items (words ws ns) ws ns k c.loop-k-test.true c.loop-k.invariant

pub returns : goal.returns
returns c = words_all c.loop-k.out.items (words c.args.widths.now c.args.numbers.now) c.args.widths.now c.args.numbers.now c.loop-k.k c.loop-k-test.false c.loop-k.invariant
