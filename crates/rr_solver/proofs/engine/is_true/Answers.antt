use Rattle.std.proofs.Common.{subst, false}
use Rattle.std.specs.Prelude.{Contains, MatchBool}
use Rattle.rr_cnf.specs.Clauses.{Literal, negated}
use Rattle.rr_trail.specs.Trails.{lits}
use Rattle.rr_solver.proofs.Values.{truth_of}
use Rattle.rr_solver.proofs.engine.is_true.Goals as goal

pub returns-in-Some-clause-positive : goal.returns-in-Some-clause-positive
returns-in-Some-clause-positive c =
    let held = lits c.args.watch.now.trail in
    (truth_of c.args.watch.now.trail c.args.watch.now.depth c.trail-trail.ensures.lawful (record { var = c.args.var; negative = false }) c.in-Some.value
    (subst (λ (l : Literal). MatchBool c.in-Some.value (Contains held l) (Contains held (negated l))) c.new.ensures c.in-Some.ensures)).0

pub returns-in-Some-clause-negative : goal.returns-in-Some-clause-negative
returns-in-Some-clause-negative c =
    let held = lits c.args.watch.now.trail in
    (truth_of c.args.watch.now.trail c.args.watch.now.depth c.trail-trail.ensures.lawful (record { var = c.args.var; negative = false }) c.in-Some.value
    (subst (λ (l : Literal). MatchBool c.in-Some.value (Contains held l) (Contains held (negated l))) c.new.ensures c.in-Some.ensures)).1
