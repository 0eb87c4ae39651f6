use Rattle.std.proofs.Common.{◌≡◌, ◌∙◌, ◌++◌, ◌∷◌, [], ap, sym, subst, arith}
use Rattle.rr_watch.specs.Watches.{bare}
use Rattle.rr_watch_lists.specs.Numbers.{Numbered}
use Rattle.rr_solver.specs.Engines.{AllStand, all_handed, question}
use Rattle.rr_solver.proofs.EngineSteps.{AllStand-flat, Engine-import, question_hold, search_is}
use Rattle.rr_solver.proofs.LogSteps.{all_handed_new}
use Rattle.rr_solver.proofs.engine.Engine.import.Goals as goal

pub returns-clause-whole : goal.returns-clause-whole
returns-clause-whole c =
    let o = c.args.self.now in
    let n : Numbered = record { id = c.args.id; clause = c.args.clause.now } in
    let e = c.in_ok-add.ensures.ok in
    let stands = AllStand-flat (bare o.watch.clauses ++ c.args.clause.now ∷ []) o.inputs o.watch.trail o.watch.depth c.trail-trail.ensures.lawful c.requires.depth in
    let w = Engine-import o.watch o.inputs o.count o.last o.journal o.handed.items o.status o.assignment.items c.requires.whole n c.add.new.self c.len-place.result (omega (arith, c.if-id-self.false)) c.requires.id.lines (ap (λ s. s.vars) e) (ap (λ s. s.clauses) e) (subst (AllStand (bare o.watch.clauses ++ c.args.clause.now ∷ []) o.inputs) (sym (ap (λ s. s.trail) e)) stands) (omega (arith, c.len-place.ensures)) in
    rw (c.push_reserved.ensures.items, c.reserve.ensures.items) w

pub returns-clause-ok : goal.returns-clause-ok
returns-clause-ok c =
    let o = c.args.self.now in
    let n : Numbered = record { id = c.args.id; clause = c.args.clause.now } in
    let e = c.in_ok-add.ensures.ok in
    let clauses : c.add.new.self.clauses ≡ o.watch.clauses ++ n ∷ [] = ap (λ s. s.clauses) e in
    let items : c.push_reserved.new.self.items ≡ o.handed.items ++ c.len-place.result ∷ [] = c.push_reserved.ensures.items ∙ ap (λ x. x ++ c.len-place.result ∷ []) c.reserve.ensures.items in
    search_is _ (question o.watch o.count) (all_handed o.watch.clauses o.handed.items ++ record { id = c.args.id; clause = c.args.clause.now } ∷ []) o.watch.depth
    (question_hold o.watch c.add.new.self o.count n c.requires.whole.counted (ap (λ s. s.vars) e) clauses)
    (ap (λ cs. all_handed cs c.push_reserved.new.self.items) clauses ∙ ap (all_handed (o.watch.clauses ++ n ∷ [])) items ∙ all_handed_new o.watch.clauses n o.handed.items c.len-place.result (omega (arith, c.len-place.ensures)) c.requires.whole.placed)
    (ap (λ s. s.depth) e)
