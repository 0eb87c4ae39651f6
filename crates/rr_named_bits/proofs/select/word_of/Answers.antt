use Rattle.std.proofs.Common.{◌∙◌, sym, ap, false, Some}
use Rattle.rr_expr.specs.Memories.{word_bits}
use Rattle.rr_flat.proofs.Bits.{word_run}
use Rattle.rr_named_bits.proofs.select.word_of.Goals as goal

pub returns-in_ok-signal-in-Some : goal.returns-in_ok-signal-in-Some
returns-in_ok-signal-in-Some c = rw c.in-Some.is (c.all_of.ensures.bits false ∙ (sym (word_run c.args.range _ false) ∙ ap (λ z. word_bits c.args.range (Some z)) c.in_ok-signal-in-Some.ensures))

pub returns-in-None : goal.returns-in-None
returns-in-None c = rw c.in-None.is c.absent_word.ensures
