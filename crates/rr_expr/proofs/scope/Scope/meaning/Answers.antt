use Rattle.std.proofs.Common.{rules}
use Rattle.rr_expr.proofs.Names.{meant_is}
use Rattle.rr_expr.proofs.scope.Scope.meaning.Goals as goal

pub returns : goal.returns
returns c = grind (rules, meant_is c.args.self.now c.args.name.now, c.find.ensures, c.unwrap_or.ensures)
