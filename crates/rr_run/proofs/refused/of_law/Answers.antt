use Rattle.rr_lex.specs.Tokens.{lexemes}
use Rattle.rr_run.proofs.Telling.{told_at}
use Rattle.rr_run.proofs.refused.of_law.Goals as goal

pub returns-in-Some : goal.returns-in-Some
returns-in-Some c = λ bytes top word flat design first. c.at.ensures bytes top word
    (told_at bytes top word c.args.fault.now c.in-Some.law c.in-Some.token c.start_of.result c.in-Some.ensures
    (record { tokens = lexemes c.args.tokens.now; flat = flat; design = design; found = c.args.fault.now; first = first; token = c.in-Some.token; told = c.in-Some.ensures; place = c.start_of.ensures }))
