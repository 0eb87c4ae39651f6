use Rattle.std.proofs.Common.{◌≡◌, ◌∙◌, sym, subst, List}
use Rattle.rr_cnf.specs.Clauses.{Literal}
use Rattle.rr_watch.specs.Watches.{Named}
use Rattle.rr_watch.proofs.NumberLaws.{one_clause, no_clause}
use Rattle.rr_watch.proofs.watch.Watch.clause.Goals as goal

pub returns-in-None-clause-none : goal.returns-in-None-clause-none
returns-in-None-clause-none c = subst (λ v. (d : List Literal) → Named v.clauses c.args.id d → ⊥) c.self.view_is (λ d m. no_clause c.self.inside.propagator c.args.id d c.in-None.ensures.none m)

pub returns-in-Some-clause-one : goal.returns-in-Some-clause-one
returns-in-Some-clause-one c =
    let p = c.self.inside.propagator in
    let f = c.in-Some.ensures.found in
    subst (λ v. (d : List Literal) → Named v.clauses c.args.id d → d ≡ c.clause.result.now) c.self.view_is (λ d m. one_clause p c.self.invariant.whole c.in-Some.place c.args.id d f.0 f.1 m ∙ sym c.clause.ensures)
