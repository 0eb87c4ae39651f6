use Rattle.std.proofs.Common.{refl}
use Rattle.rr_parse_stmt.proofs.Exactly.{is_statement, none_stands}
use Rattle.rr_parse_stmt.proofs.statement.stmt.Goals as goal

pub returns-in-Ok-None : goal.returns-in-Ok-None
returns-in-Ok-None c = (refl, none_stands c.args.depth c.args.tokens.now c.args.from c.in-Ok-None.field-0 c.in-Ok-None.field-0-is c.in-Ok-None.ensures)

pub returns-in-Ok : goal.returns-in-Ok
returns-in-Ok c = is_statement c.args.depth c.args.tokens.now c.args.from c.in-Ok-Some.field-0 c.in-Ok-Some.found c.in-Ok.place.now c.in-Ok-Some.field-0-is c.in-Ok.ensures c.in-Ok-Some.ensures
