use Rattle.std.proofs.Common.{◌≡◌, ◌∙◌, ◌+◌, ◌++◌, ◌∷◌, [], ap, refl, subst, arith}
use Rattle.rr_analysis.proofs.WalkSteps.{ready_same}
use Rattle.std.specs.Prelude.{All}
use Rattle.rr_cnf.specs.Clauses.{IsWithin}
use Rattle.rr_solver.specs.Engines.{IsEngine}
use Rattle.rr_solver.specs.declared.engine.Status.TheVariants.{Running}
use Rattle.rr_solver.proofs.EngineSteps.{Engine-back, Engine-held, Engine-learn, fresh, may_hold, names_all, new_id, passes, same_all_handed, same_question}
use Rattle.rr_solver.proofs.engine.Engine.keep.Goals as goal

pub add-requires-clause-may : goal.add-requires-clause-may
add-requires-clause-may c =
    let o = c.args.self.now in
    let s = subst (λ st. IsEngine o.watch o.inputs o.count o.last o.journal o.handed.items st o.assignment.items) c.requires.running c.requires.whole in
    let f = c.requires.conflict in
    let t = c.trail-trail.ensures in
    let within = subst (All (IsWithin o.watch.vars)) t.trail t.within in
    let id : c.in_ok-id.id ≡ o.last + 1 = c.in_ok-id.ensures in
    may_hold o.watch o.inputs o.count o.last o.journal o.handed.items o.assignment.items s t.lawful t.forced within c.args.learned.clause c.args.learned.hints.items c.args.learned.level c.requires.learns c.requires.some f.0 f.1.0 f.1.1.0 f.1.1.1 c.back.new.self c.back.ensures c.trail-kept.ensures.lawful

pub returns-in_err-add-clause-whole : goal.returns-in_err-add-clause-whole
returns-in_err-add-clause-whole c =
    let o = c.args.self.now in
    let s = subst (λ st. IsEngine o.watch o.inputs o.count o.last o.journal o.handed.items st o.assignment.items) c.requires.running c.requires.whole in
    let f = c.requires.conflict in
    let t = c.trail-trail.ensures in
    let within = subst (All (IsWithin o.watch.vars)) t.trail t.within in
    let id : c.in_ok-id.id ≡ o.last + 1 = c.in_ok-id.ensures in
    rw (c.in_err-add.ensures.err, id) (Engine-back o.watch o.inputs o.count o.last o.journal o.handed.items o.assignment.items s t.lawful t.forced within c.args.learned.clause c.args.learned.hints.items c.args.learned.level c.requires.learns c.requires.some f.0 f.1.0 f.1.1.0 f.1.1.1 c.back.new.self c.back.ensures c.trail-kept.ensures.lawful)

pub returns-in_err-push_at-clause-whole : goal.returns-in_err-push_at-clause-whole
returns-in_err-push_at-clause-whole c =
    let o = c.args.self.now in
    let s = subst (λ st. IsEngine o.watch o.inputs o.count o.last o.journal o.handed.items st o.assignment.items) c.requires.running c.requires.whole in
    let f = c.requires.conflict in
    let t = c.trail-trail.ensures in
    let within = subst (All (IsWithin o.watch.vars)) t.trail t.within in
    let id : c.in_ok-id.id ≡ o.last + 1 = c.in_ok-id.ensures in
    let added : c.add.new.self ≡ record { vars = c.back.new.self.vars; clauses = c.back.new.self.clauses ++ record { id = o.last + 1; clause = c.args.learned.clause } ∷ []; trail = c.back.new.self.trail; depth = c.back.new.self.depth } = c.in_ok-add.ensures.ok ∙ ap (λ i. record { vars = c.back.new.self.vars; clauses = c.back.new.self.clauses ++ record { id = i; clause = c.args.learned.clause } ∷ []; trail = c.back.new.self.trail; depth = c.back.new.self.depth }) id in
    rw (c.in_err-push_at.ensures.err, id) (Engine-held o.watch o.inputs o.count o.last o.journal o.handed.items o.assignment.items s t.lawful t.forced within c.args.learned.clause c.args.learned.hints.items c.args.learned.level c.requires.learns c.requires.some f.0 f.1.0 f.1.1.0 f.1.1.1 c.back.new.self c.back.ensures c.trail-kept.ensures.lawful c.add.new.self added)

pub returns-in_err-push_at-clause-same : goal.returns-in_err-push_at-clause-same
returns-in_err-push_at-clause-same c =
    let o = c.args.self.now in
    let s = subst (λ st. IsEngine o.watch o.inputs o.count o.last o.journal o.handed.items st o.assignment.items) c.requires.running c.requires.whole in
    let f = c.requires.conflict in
    let t = c.trail-trail.ensures in
    let within = subst (All (IsWithin o.watch.vars)) t.trail t.within in
    let id : c.in_ok-id.id ≡ o.last + 1 = c.in_ok-id.ensures in
    let added : c.add.new.self ≡ record { vars = c.back.new.self.vars; clauses = c.back.new.self.clauses ++ record { id = o.last + 1; clause = c.args.learned.clause } ∷ []; trail = c.back.new.self.trail; depth = c.back.new.self.depth } = c.in_ok-add.ensures.ok ∙ ap (λ i. record { vars = c.back.new.self.vars; clauses = c.back.new.self.clauses ++ record { id = i; clause = c.args.learned.clause } ∷ []; trail = c.back.new.self.trail; depth = c.back.new.self.depth }) id in
    record { formula = same_question o.watch o.inputs o.count o.last o.journal o.handed.items o.assignment.items s t.lawful t.forced within c.args.learned.clause c.args.learned.hints.items c.args.learned.level c.requires.learns c.requires.some f.0 f.1.0 f.1.1.0 f.1.1.1 c.back.new.self c.back.ensures c.trail-kept.ensures.lawful c.add.new.self added; inputs = refl; handed = same_all_handed o.watch o.inputs o.count o.last o.journal o.handed.items o.assignment.items s t.lawful t.forced within c.args.learned.clause c.args.learned.hints.items c.args.learned.level c.requires.learns c.requires.some f.0 f.1.0 f.1.1.0 f.1.1.1 c.back.new.self c.back.ensures c.trail-kept.ensures.lawful c.add.new.self added }

pub returns-clause-whole : goal.returns-clause-whole
returns-clause-whole c =
    let o = c.args.self.now in
    let s = subst (λ st. IsEngine o.watch o.inputs o.count o.last o.journal o.handed.items st o.assignment.items) c.requires.running c.requires.whole in
    let f = c.requires.conflict in
    let t = c.trail-trail.ensures in
    let within = subst (All (IsWithin o.watch.vars)) t.trail t.within in
    let id : c.in_ok-id.id ≡ o.last + 1 = c.in_ok-id.ensures in
    let added : c.add.new.self ≡ record { vars = c.back.new.self.vars; clauses = c.back.new.self.clauses ++ record { id = o.last + 1; clause = c.args.learned.clause } ∷ []; trail = c.back.new.self.trail; depth = c.back.new.self.depth } = c.in_ok-add.ensures.ok ∙ ap (λ i. record { vars = c.back.new.self.vars; clauses = c.back.new.self.clauses ++ record { id = i; clause = c.args.learned.clause } ∷ []; trail = c.back.new.self.trail; depth = c.back.new.self.depth }) id in
    rw (c.in_ok-push_at.ensures.ok, id) (Engine-learn o.watch o.inputs o.count o.last o.journal o.handed.items o.assignment.items s t.lawful t.forced within c.args.learned.clause c.args.learned.hints.items c.args.learned.level c.requires.learns c.requires.some f.0 f.1.0 f.1.1.0 f.1.1.1 c.back.new.self c.back.ensures c.trail-kept.ensures.lawful c.add.new.self added)

pub returns-clause-same : goal.returns-clause-same
returns-clause-same c =
    let o = c.args.self.now in
    let s = subst (λ st. IsEngine o.watch o.inputs o.count o.last o.journal o.handed.items st o.assignment.items) c.requires.running c.requires.whole in
    let f = c.requires.conflict in
    let t = c.trail-trail.ensures in
    let within = subst (All (IsWithin o.watch.vars)) t.trail t.within in
    let id : c.in_ok-id.id ≡ o.last + 1 = c.in_ok-id.ensures in
    let added : c.add.new.self ≡ record { vars = c.back.new.self.vars; clauses = c.back.new.self.clauses ++ record { id = o.last + 1; clause = c.args.learned.clause } ∷ []; trail = c.back.new.self.trail; depth = c.back.new.self.depth } = c.in_ok-add.ensures.ok ∙ ap (λ i. record { vars = c.back.new.self.vars; clauses = c.back.new.self.clauses ++ record { id = i; clause = c.args.learned.clause } ∷ []; trail = c.back.new.self.trail; depth = c.back.new.self.depth }) id in
    record { formula = same_question o.watch o.inputs o.count o.last o.journal o.handed.items o.assignment.items s t.lawful t.forced within c.args.learned.clause c.args.learned.hints.items c.args.learned.level c.requires.learns c.requires.some f.0 f.1.0 f.1.1.0 f.1.1.1 c.back.new.self c.back.ensures c.trail-kept.ensures.lawful c.add.new.self added; inputs = refl; handed = same_all_handed o.watch o.inputs o.count o.last o.journal o.handed.items o.assignment.items s t.lawful t.forced within c.args.learned.clause c.args.learned.hints.items c.args.learned.level c.requires.learns c.requires.some f.0 f.1.0 f.1.1.0 f.1.1.1 c.back.new.self c.back.ensures c.trail-kept.ensures.lawful c.add.new.self added }

pub returns-clause-result : goal.returns-clause-result
returns-clause-result c =
    let o = c.args.self.now in
    let s = subst (λ st. IsEngine o.watch o.inputs o.count o.last o.journal o.handed.items st o.assignment.items) c.requires.running c.requires.whole in
    let f = c.requires.conflict in
    let t = c.trail-trail.ensures in
    let within = subst (All (IsWithin o.watch.vars)) t.trail t.within in
    let id : c.in_ok-id.id ≡ o.last + 1 = c.in_ok-id.ensures in (
      refl,
      (
        record {
          added = record { id = c.in_ok-id.id; clause = c.args.learned.clause; hints = c.args.learned.hints.items };
          lines = ap (λ j. j.lines) c.in_ok-push_at.ensures.ok;
          id = new_id o.watch o.inputs o.count o.last o.journal o.handed.items Running o.assignment.items s c.in_ok-id.id (omega (arith, id));
          within = c.requires.learns.within;
          passes = passes o.watch o.inputs o.count o.last o.journal o.handed.items o.assignment.items s t.lawful t.forced within c.args.learned.clause c.args.learned.hints.items c.args.learned.level c.requires.learns c.requires.some f.0 f.1.0 f.1.1.0 f.1.1.1 c.in_ok-id.id;
          hints = names_all o.watch o.inputs o.count o.last o.journal o.handed.items o.assignment.items s c.in_ok-id.id c.args.learned.clause c.args.learned.hints.items c.requires.learns.named;
        },
        fresh o.watch o.inputs o.count o.last o.journal o.handed.items o.assignment.items s t.lawful t.forced within c.args.learned.clause c.args.learned.hints.items c.args.learned.level c.requires.learns c.requires.some f.0 f.1.0 f.1.1.0 f.1.1.1 c.in_ok-id.id,
      ),
    )

pub returns-in_err-add-clause-ready : goal.returns-in_err-add-clause-ready
returns-in_err-add-clause-ready c =
    let o = c.args.self.now in
    let b = c.back.ensures in
    let r = ready_same o.watch.vars c.back.new.self.vars o.work b.vars c.requires.ready in
    rw c.in_err-add.ensures.err r

pub returns-in_err-push_at-clause-ready : goal.returns-in_err-push_at-clause-ready
returns-in_err-push_at-clause-ready c =
    let o = c.args.self.now in
    let b = c.back.ensures in
    let r = ready_same o.watch.vars c.back.new.self.vars o.work b.vars c.requires.ready in
    rw c.in_ok-add.ensures.ok r

pub returns-clause-ready : goal.returns-clause-ready
returns-clause-ready c =
    let o = c.args.self.now in
    let b = c.back.ensures in
    let r = ready_same o.watch.vars c.back.new.self.vars o.work b.vars c.requires.ready in
    rw c.in_ok-add.ensures.ok r
