use Rattle.std.proofs.Common.{subst}
use Rattle.std.specs.Prelude.{Contains, MatchBool, MatchOption}
use Rattle.rr_cnf.specs.Clauses.{negated}
use Rattle.rr_trail.specs.Trails.{lits}
use Rattle.rr_watch.proofs.watch.Watch.value.Goals as goal

pub returns : goal.returns
returns c = subst (λ v. MatchOption c.value.result ((Contains (lits v.trail) c.args.lit → ⊥) × (Contains (lits v.trail) (negated c.args.lit) → ⊥)) (λ b. MatchBool b (Contains (lits v.trail) c.args.lit) (Contains (lits v.trail) (negated c.args.lit)))) c.self.view_is c.value.ensures
