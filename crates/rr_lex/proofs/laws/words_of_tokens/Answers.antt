use Rattle.rr_lex.proofs.Steps.{token_words}
use Rattle.rr_lex.proofs.laws.words_of_tokens.Goals as goal

pub returns : goal.returns
returns c = λ tokens. token_words tokens
