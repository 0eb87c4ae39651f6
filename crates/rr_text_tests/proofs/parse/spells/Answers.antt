use Rattle.std.proofs.Common.{length, ap, arith}
use Rattle.rr_parse_expr.proofs.TokenWords.{length_words}
use Rattle.rr_text_tests.proofs.parse.spells.Goals as goal

pub spell_len-requires : goal.spell_len-requires
spell_len-requires c = record { fits = omega (arith, ap length c.in-Ok-parse.ensures.exact.spelled.tree.spells.spelled, length_words c.in-Ok.tokens.now, c.in-Ok.ensures.few) }

pub depth-requires : goal.depth-requires
depth-requires c = record { fits = omega (arith, c.in-Ok-parse.ensures.exact.spelled.tree.shallow) }
