use Rattle.rr_lex.proofs.Patches.{patch_words}
use Rattle.rr_lex.proofs.laws.patched_text_reads.Goals as goal

pub returns : goal.returns
returns c = λ bytes ts es r f. patch_words bytes ts es r f
