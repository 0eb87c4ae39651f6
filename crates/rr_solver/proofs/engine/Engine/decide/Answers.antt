use Rattle.std.proofs.Common.{ap, sym, subst}
use Rattle.rr_watch.specs.Watches.{bare}
use Rattle.rr_solver.specs.Engines.{AllStand}
use Rattle.rr_solver.proofs.EngineSteps.{AllStand-decided, Engine-trail}
use Rattle.rr_solver.proofs.engine.Engine.decide.Goals as goal

pub returns-clause-whole : goal.returns-clause-whole
returns-clause-whole c =
    let o = c.args.self.now in
    let e = c.decide.ensures in
    Engine-trail o.watch o.inputs o.count o.last o.journal o.handed.items o.status o.assignment.items c.requires.whole c.decide.new.self (ap (λ s. s.vars) e) (ap (λ s. s.clauses) e)
    (subst (AllStand (bare o.watch.clauses) o.inputs) (sym (ap (λ s. s.trail) e)) (AllStand-decided (bare o.watch.clauses) o.inputs o.watch.trail _ c.requires.input.high c.requires.quiet c.requires.whole.stands))
