use Rattle.std.proofs.Common.{refl}
use Rattle.rr_solver.proofs.engine.Engine.renew.Goals as goal

pub returns-else-is_due-clause-search : goal.returns-else-is_due-clause-search
returns-else-is_due-clause-search c = (c.args.self.now.watch.depth, refl)
