use Rattle.std.proofs.Common.{subst}
use Rattle.rr_watch.specs.Watches.{AreHeld}
use Rattle.rr_watch.proofs.NumberLaws.{are_held}
use Rattle.rr_watch.proofs.watch.Watch.trail.Goals as goal

pub returns-clause-clauses : goal.returns-clause-clauses
returns-clause-clauses c = subst (λ v. AreHeld v.vars v.clauses) c.self.view_is (are_held c.self.inside.propagator c.self.invariant.whole)
