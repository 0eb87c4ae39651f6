use Rattle.std.proofs.Common.{length, sym, subst}
use Rattle.rr_analysis.proofs.WalkSteps.{ready_same}
use Rattle.rr_watch.specs.Watches.{bare}
use Rattle.rr_solver.specs.Engines.{AllStand}
use Rattle.rr_solver.proofs.EngineSteps.{AllStand-take, Engine-trail}
use Rattle.rr_solver.proofs.engine.Engine.restart.Goals as goal

pub returns-clause-whole : goal.returns-clause-whole
returns-clause-whole c =
    let o = c.args.self.now in
    let b = c.back.ensures in
    let n = length c.back.new.self.trail in
    Engine-trail o.watch o.inputs o.count o.last o.journal o.handed.items o.status o.assignment.items c.requires.whole c.back.new.self b.vars b.clauses
    (subst (AllStand (bare o.watch.clauses) o.inputs) (sym b.cut.front) (AllStand-take (bare o.watch.clauses) o.inputs o.watch.trail n b.cut.shorter c.requires.whole.stands))

pub returns-clause-ready : goal.returns-clause-ready
returns-clause-ready c =
    let o = c.args.self.now in
    let b = c.back.ensures in
    ready_same o.watch.vars c.back.new.self.vars o.work b.vars c.requires.ready
