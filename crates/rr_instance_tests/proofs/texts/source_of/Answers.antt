use Rattle.std.proofs.Common.{length, ap, arith}
use Rattle.rr_parse_expr.proofs.TokenWords.{length_words}
use Rattle.rr_instance_tests.proofs.texts.source_of.Goals as goal

pub returns-in-Ok-parse : goal.returns-in-Ok-parse
returns-in-Ok-parse c = omega (arith, ap length c.in-Ok-parse.ensures.exact.spelled.tree.spells.spelled, length_words c.in-Ok.tokens.now, c.in-Ok.ensures.few)
