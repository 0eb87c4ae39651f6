use Rattle.std.proofs.Common.{◌+◌, ◌<◌, ◌≤◌, subst, arith}
use Rattle.std.specs.Prelude.{All}
use Rattle.std.proofs.lemmas.List.Elements.{All-weaker}
use Rattle.rr_derive.specs.Fresh.{Handed}
use Rattle.rr_solver.specs.Engines.{all_handed}
use Rattle.rr_solver.proofs.LogSteps.{handed_ids}
use Rattle.rr_solver.proofs.solver.Solver.last_id.Goals as goal

pub returns-clause-handed : goal.returns-clause-handed
returns-clause-handed c =
    let e = c.self.inside.engine in
    subst (λ v. All (λ h. h.id ≤ e.last) v.handed) c.self.view_is
    (All-weaker (λ (h : Handed). h.id < e.last + 1) (λ (h : Handed). h.id ≤ e.last) (λ h x. omega arith) (all_handed e.watch.clauses e.handed.items) (handed_ids e.watch.clauses e.handed.items e.last c.self.invariant.0.ids c.self.invariant.0.placed))
