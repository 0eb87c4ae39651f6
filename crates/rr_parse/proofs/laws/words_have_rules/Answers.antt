use Rattle.rr_parse.proofs.Rules.{words_ruled}
use Rattle.rr_parse.proofs.laws.words_have_rules.Goals as goal

pub returns : goal.returns
returns c = λ tokens t s. words_ruled tokens t s.well s.spelled
