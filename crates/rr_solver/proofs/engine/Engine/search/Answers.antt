use Rattle.rr_solver.specs.Engines.{Moves}
use Rattle.rr_solver.proofs.EngineSteps.{moves_after, ok_after}
use Rattle.rr_solver.proofs.engine.Engine.search.Goals as goal

pub returns-in-Conflict-clause-result : goal.returns-in-Conflict-clause-result
returns-in-Conflict-clause-result c =
    let m = moves_after c.args.self.now c.loop-id.self c.propagate.new.self c.loop-id.invariant.moves c.propagate.ensures.moves in
    ok_after c.args.self.now c.propagate.new.self m c.learn.new.self c.learn.result c.learn.ensures.result

pub returns-in-None-clause-result : goal.returns-in-None-clause-result
returns-in-None-clause-result c =
    let m = moves_after c.args.self.now c.loop-id.self c.propagate.new.self c.loop-id.invariant.moves c.propagate.ensures.moves in
    let n : Moves c.args.self.now (record c.propagate.new.self { order = c.open_input.new.order }) = record { vars = m.vars; clauses = m.clauses; inputs = m.inputs; count = m.count; last = m.last; journal = m.journal; places = m.places; status = m.status; bits = m.bits; ready = m.ready } in
    ok_after c.args.self.now (record c.propagate.new.self { order = c.open_input.new.order }) n c.finish.new.self c.finish.result c.finish.ensures.result
