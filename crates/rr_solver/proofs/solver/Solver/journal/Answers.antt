use Rattle.std.proofs.Common.{◌≡◌, subst}
use Rattle.rr_derive.specs.Fresh.{Fresh}
use Rattle.rr_solver.specs.Searches.{held_of}
use Rattle.rr_solver.specs.Engines.{all_handed, question}
use Rattle.rr_solver.specs.declared.engine.Status.TheVariants.{Refuted}
use Rattle.rr_solver.proofs.Ends.{all_fresh}
use Rattle.rr_solver.proofs.solver.Solver.journal.Goals as goal

pub returns-clause-fresh : goal.returns-clause-fresh
returns-clause-fresh c =
    let e = c.self.inside.engine in
    subst (λ v. (v.status ≡ Refuted → ⊥) → Fresh v.formula.clauses v.inputs (held_of v.handed v.lines) v.lines) c.self.view_is
    (all_fresh (question e.watch e.count) e.inputs (all_handed e.watch.clauses e.handed.items) e.journal.lines e.status e.assignment.items c.self.invariant.0.log c.lines-lines.ensures.rising)
