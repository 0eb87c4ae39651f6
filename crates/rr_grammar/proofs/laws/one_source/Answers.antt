use Rattle.std.proofs.Common.{◌∙◌, sym}
use Rattle.rr_grammar.proofs.OneSource.{unique_source}
use Rattle.rr_grammar.proofs.laws.one_source.Goals as goal

pub returns : goal.returns
returns c = λ ws a b s t. unique_source a b s.well t.well (s.spelled ∙ sym t.spelled)
