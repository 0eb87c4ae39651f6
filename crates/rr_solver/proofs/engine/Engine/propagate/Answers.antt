use Rattle.std.proofs.Common.{refl}
use Rattle.rr_watch.specs.Watches.{bare}
use Rattle.rr_analysis.proofs.WalkSteps.{ready_same}
use Rattle.rr_solver.proofs.EngineSteps.{AllStand-grown, Engine-trail}
use Rattle.rr_solver.proofs.engine.Engine.propagate.Goals as goal

pub returns-clause-whole : goal.returns-clause-whole
returns-clause-whole c =
    let o = c.args.self.now in
    Engine-trail o.watch o.inputs o.count o.last o.journal o.handed.items o.status o.assignment.items c.requires c.propagate.new.self c.propagate.ensures.vars c.propagate.ensures.clauses
    (AllStand-grown (bare o.watch.clauses) o.inputs o.watch.trail c.propagate.new.self.trail c.propagate.ensures.grown c.requires.stands)

pub returns-clause-moves : goal.returns-clause-moves
returns-clause-moves c =
    let o = c.args.self.now in
    let e = c.propagate.ensures in
    record { vars = e.vars; clauses = e.clauses; inputs = refl; count = refl; last = refl; journal = refl; places = refl; status = refl; bits = refl; ready = ready_same o.watch.vars c.propagate.new.self.vars o.work e.vars }
