use Rattle.std.proofs.Common.{refl, subst}
use Rattle.rr_solver.specs.Engines.{IsEngine}
use Rattle.rr_solver.proofs.EngineSteps.{Engine-model, model_of}
use Rattle.rr_solver.proofs.engine.Engine.finish.Goals as goal

pub returns-clause-whole : goal.returns-clause-whole
returns-clause-whole c =
    let o = c.args.self.now in
    let s = subst (λ st. IsEngine o.watch o.inputs o.count o.last o.journal o.handed.items st o.assignment.items) c.requires.running c.requires.whole in
    let new = c.in_ok-self.field-0.items in
    let m = model_of o.watch o.inputs o.count o.last o.journal o.handed.items o.assignment.items s new c.in_ok-self.ensures.long c.in_ok-self.ensures.agrees c.requires.quiet c.requires.assigned c.trail-trail.ensures.clauses in
    Engine-model o.watch o.inputs o.count o.last o.journal o.handed.items o.assignment.items s new m

pub returns-clause-result : goal.returns-clause-result
returns-clause-result c =
    let o = c.args.self.now in
    let s = subst (λ st. IsEngine o.watch o.inputs o.count o.last o.journal o.handed.items st o.assignment.items) c.requires.running c.requires.whole in
    let new = c.in_ok-self.field-0.items in
    (refl, refl, model_of o.watch o.inputs o.count o.last o.journal o.handed.items o.assignment.items s new c.in_ok-self.ensures.long c.in_ok-self.ensures.agrees c.requires.quiet c.requires.assigned c.trail-trail.ensures.clauses)
