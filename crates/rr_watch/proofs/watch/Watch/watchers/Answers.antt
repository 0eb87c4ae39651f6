use Rattle.std.proofs.Common.{◌<◌, ℕ, List, sym, subst}
use Rattle.rr_cnf.specs.Clauses.{Literal}
use Rattle.rr_watch.specs.Watches.{IsPair, Named}
use Rattle.rr_watch.proofs.NumberLaws.{pair_watched}
use Rattle.rr_watch.proofs.watch.Watch.watchers.Goals as goal

pub returns : goal.returns
returns c =
    let p = c.self.inside.propagator in
    subst (λ v. (id : ℕ) (d : List Literal) → Named v.clauses id d → IsPair c.args.lit d → 0 < c.len.result) c.self.view_is (λ id d n i. subst (λ k. 0 < k) (sym c.len.ensures) (pair_watched p c.self.invariant.whole c.args.lit id d n i))
