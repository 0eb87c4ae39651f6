use Rattle.std.proofs.Common.{sym}
use Rattle.rr_syntax.proofs.PastTables.{infix_past}
use Rattle.rr_syntax.proofs.operators.infix_level.Goals as goal

pub returns-else-at-lt45 : goal.returns-else-at-lt45
returns-else-at-lt45 c = sym (infix_past c.args.mark.0 c.if-at-lt45.false)
