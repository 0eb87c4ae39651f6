use Rattle.rr_lex.proofs.Written.{written_is}
use Rattle.rr_lex.proofs.literal.number_text.Goals as goal

pub returns-clause-number : goal.returns-clause-number
returns-clause-number c = written_is c.args.width c.args.signed c.args.value c.in_ok-literal_text.field-0.items c.requires.some c.requires.most c.requires.fits c.in_ok-literal_text.ensures
