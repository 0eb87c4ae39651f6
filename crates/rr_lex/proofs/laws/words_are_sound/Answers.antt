use Rattle.rr_lex.proofs.Sound.{words_sound}
use Rattle.rr_lex.proofs.laws.words_are_sound.Goals as goal

pub returns : goal.returns
returns c = λ bytes ts r. words_sound bytes ts r
