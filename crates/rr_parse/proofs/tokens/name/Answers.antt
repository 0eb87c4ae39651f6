use Rattle.rr_parse.proofs.MadeLeaves.{name_found, no_name}
use Rattle.rr_parse.proofs.tokens.name.Goals as goal

pub returns-in-Some : goal.returns-in-Some
returns-in-Some c = name_found c.in-Some.value c.in-Some.ensures

pub returns-in-None : goal.returns-in-None
returns-in-None c = no_name c.in-None.ensures
