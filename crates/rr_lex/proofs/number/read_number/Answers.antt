use Rattle.rr_lex.proofs.Whole.{other_end, no_end}
use Rattle.rr_lex.proofs.number.read_number.Goals as goal

pub returns-else-end-text : goal.returns-else-end-text
returns-else-end-text c = other_end c.args.text.now c.in-Some.end c.in-Some.ensures.place c.if-end-text.false

pub returns-in-None : goal.returns-in-None
returns-in-None c = no_end c.args.text.now c.in-None.ensures.place
