use Rattle.std.proofs.Common.{sym}
use Rattle.rr_syntax.proofs.PastTables.{prefix_past}
use Rattle.rr_syntax.proofs.operators.is_prefix.Goals as goal

pub returns-else-at-lt45 : goal.returns-else-at-lt45
returns-else-at-lt45 c = sym (prefix_past c.args.mark.0 c.if-at-lt45.false)
