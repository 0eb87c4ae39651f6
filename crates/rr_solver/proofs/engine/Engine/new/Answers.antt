use Rattle.std.proofs.Common.{arith}
use Rattle.rr_solver.proofs.EngineSteps.{Engine-new, search_new}
use Rattle.rr_solver.proofs.engine.Engine.new.Goals as goal

pub returns-clause-whole : goal.returns-clause-whole
returns-clause-whole c =
    Engine-new c.args.formula.now c.args.inputs c.len-count.result c.in_ok-watch.watch _ _ _ (omega (arith, c.if-vars-gt-MOST_VARS.false, c.vars-vars.ensures)) c.requires.few c.requires.determined c.len-count.ensures c.in_ok-watch.ensures c.new-2.ensures c.new-7.ensures.items

pub returns-clause-search : goal.returns-clause-search
returns-clause-search c =
    search_new c.args.formula.now c.args.inputs c.len-count.result c.in_ok-watch.watch _ _ _ c.len-count.ensures c.in_ok-watch.ensures c.new-2.ensures c.new-7.ensures.items c.new-8.ensures.items
