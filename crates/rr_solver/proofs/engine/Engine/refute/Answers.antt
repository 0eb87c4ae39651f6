use Rattle.std.proofs.Common.{◌≡◌, ◌+◌, length, ap, refl, subst, arith}
use Rattle.rr_solver.specs.Engines.{IsEngine}
use Rattle.rr_solver.specs.declared.engine.Status.TheVariants.{Running}
use Rattle.rr_solver.proofs.EngineSteps.{Engine-refute, names_all, new_id, passes_empty}
use Rattle.rr_solver.proofs.engine.Engine.refute.Goals as goal

pub returns-clause-whole : goal.returns-clause-whole
returns-clause-whole c =
    let o = c.args.self.now in
    let s = subst (λ st. IsEngine o.watch o.inputs o.count o.last o.journal o.handed.items st o.assignment.items) c.requires.running c.requires.whole in
    let w = Engine-refute o.watch o.inputs o.count o.last o.journal o.handed.items o.assignment.items s c.args.clause c.args.hints.items c.requires.empty c.requires.passes c.requires.named in
    rw (c.in_ok-push_at.ensures.ok, c.in_ok-id.ensures) w

pub returns-clause-result : goal.returns-clause-result
returns-clause-result c =
    let o = c.args.self.now in
    let s = subst (λ st. IsEngine o.watch o.inputs o.count o.last o.journal o.handed.items st o.assignment.items) c.requires.running c.requires.whole in
    let id : c.in_ok-id.id ≡ o.last + 1 = c.in_ok-id.ensures in (
      refl,
      (
        record {
          added = record { id = c.in_ok-id.id; clause = c.args.clause; hints = c.args.hints.items };
          lines = ap (λ j. j.lines) c.in_ok-push_at.ensures.ok;
          id = new_id o.watch o.inputs o.count o.last o.journal o.handed.items Running o.assignment.items s c.in_ok-id.id (omega (arith, id));
          within = λ k d h. absurd (omega (arith, ap length c.requires.empty));
          passes = passes_empty o.watch o.inputs o.count o.last o.journal o.handed.items o.assignment.items s c.in_ok-id.id c.args.clause c.args.hints.items c.requires.empty c.requires.passes;
          hints = names_all o.watch o.inputs o.count o.last o.journal o.handed.items o.assignment.items s c.in_ok-id.id c.args.clause c.args.hints.items c.requires.named;
        },
        c.requires.empty,
      ),
    )
