use Rattle.std.proofs.Common.{◌≡◌, ◌∙◌, ap, ◌+◌, ◌*◌, ◌<◌, inr, arith}
use Rattle.rr_syntax.specs.View.{plain_declarator}
use Rattle.rr_declarations.specs.Declarations.{declared_bits}
use Rattle.rr_declarations.proofs.Listings.{counted_full}
use Rattle.rr_memory_words.specs.Words.{word_count}
use Rattle.rr_memory_words.proofs.Named.{words_some, words_few}
use Rattle.rr_declarations.proofs.declare.Declarations.append.Goals as goal

pub bits_of_words-requires-clause-some : goal.bits_of_words-requires-clause-some
bits_of_words-requires-clause-some c = words_some _ _ c.args.words c.requires.words

pub bits_of_words-requires-clause-few : goal.bits_of_words-requires-clause-few
bits_of_words-requires-clause-few c = words_few _ _ c.args.words c.requires.words

pub returns-then-bits-gt-FLAT_BITS-clause-value : goal.returns-then-bits-gt-FLAT_BITS-clause-value
returns-then-bits-gt-FLAT_BITS-clause-value c =
    let lt : 65536 < c.self.inside.bits + c.bits_of_words.result = omega arith in
    let is : c.bits_of_words.result ≡ declared_bits c.args.one.now c.args.words = c.bits_of_words.ensures.value ∙ ap (λ w. word_count c.args.words * w) c.requires.width in
    inr (rw (← c.self.view_is) (counted_full c.args.one.now (plain_declarator c.args.name.now) c.args.words c.args.start _ c.bits_of_words.result is lt))

pub invariant_of-self-in_err-put : goal.invariant_of-self-in_err-put
invariant_of-self-in_err-put c =
    let same = rw c.in_err-put.was at c.put.ensures.unchanged in
    rw (same, c.reserve.ensures.items) c.self.invariant
