use Rattle.std.specs.Prelude.{Ok}
use Rattle.rr_solver.specs.Engines.{search_of}
use Rattle.rr_solver.proofs.Ends.{stepped_from}
use Rattle.rr_solver.proofs.engine.Engine.step.Goals as goal

pub returns-in-Ok-clause-result : goal.returns-in-Ok-clause-result
returns-in-Ok-clause-result c =
    let e = c.renew.ensures.search in
    stepped_from (search_of c.args.self.now) (search_of c.renew.new.self) (search_of c.search.new.self) e.0 (Ok c.in-Ok.stepped) e.1 c.in-Ok.ensures.result
