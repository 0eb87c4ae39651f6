use Rattle.std.proofs.Common.{◌≡◌, ◌∙◌, ◌⊎◌, ap, sym, subst}
use Rattle.std.specs.Prelude.{All, Contains}
use Rattle.std.proofs.lemmas.List.Elements.{Contains-get_or}
use Rattle.rr_cnf.specs.Clauses.{Literal, negated}
use Rattle.rr_trail.specs.Trails.{Forces, lits}
use Rattle.rr_watch_lists.specs.Holdings.{held_at}
use Rattle.rr_watch.specs.Lists.{IsPlaced, literal_at}
use Rattle.rr_watch.proofs.StateSteps.{literal_is}
use Rattle.rr_watch.proofs.AdvanceLaws.{other_bound, other_same}
use Rattle.rr_watch.proofs.propagator.Propagator.look.Goals as goal

pub block-requires-clause-member : goal.block-requires-clause-member
block-requires-clause-member c =
    let o = c.args.self.now in
    let q = c.args.falsified in
    let h = held_at o.hand.held c.place-index.result in
    let at = c.place-index.ensures ∙ ap (λ v. v.place) c.watcher.ensures.is in
    let same = c.clause-clause.ensures in
    let placed = subst (λ k. IsPlaced (held_at o.hand.held k)) (sym c.place-index.ensures) c.watcher.ensures.watches.placed in
    let is_other = other_same h q c.clause-clause.result.now c.watched-watched.result.first c.watched-watched.result.second c.in-Some.place same c.watched-watched.ensures.first c.watched-watched.ensures.second c.in-Some.ensures in
    let bound = other_bound h q c.in-Some.place placed is_other in
    let other : c.index-clause-place.result ≡ literal_at h.clause c.in-Some.place = literal_is c.clause-clause.result.now h.clause c.in-Some.place c.index-clause-place.result same bound c.index-clause-place.is in
    let m : Contains h.clause c.index-clause-place.result = subst (Contains h.clause) (sym other) (Contains-get_or h.clause c.in-Some.place _ bound) in
    subst (λ k. Contains (held_at o.hand.held k).clause c.index-clause-place.result) at m

pub settle-requires-clause-forces : goal.settle-requires-clause-forces
settle-requires-clause-forces c =
    let o = c.args.self.now in
    let q = c.args.falsified in
    let h = held_at o.hand.held c.place-index.result in
    let at = c.place-index.ensures ∙ ap (λ v. v.place) c.watcher.ensures.is in
    let same = c.clause-clause.ensures in
    let placed = subst (λ k. IsPlaced (held_at o.hand.held k)) (sym c.place-index.ensures) c.watcher.ensures.watches.placed in
    let is_other = other_same h q c.clause-clause.result.now c.watched-watched.result.first c.watched-watched.result.second c.in-Some.place same c.watched-watched.ensures.first c.watched-watched.ensures.second c.in-Some.ensures in
    let bound = other_bound h q c.in-Some.place placed is_other in
    let other : c.index-clause-place.result ≡ literal_at h.clause c.in-Some.place = literal_is c.clause-clause.result.now h.clause c.in-Some.place c.index-clause-place.result same bound c.index-clause-place.is in
    let m : Contains h.clause c.index-clause-place.result = subst (Contains h.clause) (sym other) (Contains-get_or h.clause c.in-Some.place _ bound) in
    let rest = subst (λ x. All (λ (n : Literal). (n ≡ c.index-clause-place.result) ⊎ Contains (lits o.trail.entries) (negated n)) x) same c.in-None.ensures in
    subst (λ k. Forces (lits o.trail.entries) (held_at o.hand.held k).clause c.index-clause-place.result) at (record { member = m; others = rest })
