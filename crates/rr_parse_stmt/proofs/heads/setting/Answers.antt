use Rattle.std.proofs.Common.{None, Some}
use Rattle.rr_parse_stmt.proofs.LoopHeads.{setting_unnamed}
use Rattle.rr_parse_stmt.proofs.Names.{name_is}
use Rattle.rr_parse_stmt.proofs.heads.setting.Goals as goal

pub returns-in-None : goal.returns-in-None
returns-in-None c = setting_unnamed c.args.tokens.now c.args.from c.args.room c.args.mark.0 (name_is c.args.tokens.now c.args.from None c.in-None.ensures)

pub set_value-requires-clause-inside : goal.set_value-requires-clause-inside
set_value-requires-clause-inside c = c.in-Some.ensures.2

pub set_value-requires-clause-name_read : goal.set_value-requires-clause-name_read
set_value-requires-clause-name_read c = name_is c.args.tokens.now c.args.from (Some c.in-Some.name) c.in-Some.ensures
