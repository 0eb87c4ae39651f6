use Rattle.std.proofs.Common.{◌≡◌, ◌∙◌, ap, sym, subst}
use Rattle.std.specs.Prelude.{Contains, Some}
use Rattle.std.proofs.lemmas.List.Elements.{Contains-get_or}
use Rattle.rr_watch_lists.specs.Holdings.{held_at}
use Rattle.rr_watch.specs.Lists.{IsReplacement, literal_at}
use Rattle.rr_watch.proofs.StateSteps.{literal_is}
use Rattle.rr_watch.proofs.propagator.Propagator.replace.Goals as goal

pub block-requires-clause-member : goal.block-requires-clause-member
block-requires-clause-member c =
    let o = c.args.self.now in
    let q = c.args.falsified in
    let h = held_at o.hand.held c.place-index.result in
    let index = c.place-index.ensures ∙ ap (λ v. v.place) c.watcher.ensures.is in
    let found : IsReplacement o.trail.entries h.clause (literal_at h.clause c.args.other) (Some c.args.found) = subst (λ k. IsReplacement o.trail.entries (held_at o.hand.held k).clause (literal_at (held_at o.hand.held k).clause c.args.other) (Some c.args.found)) (sym index) c.requires.found in
    let lit : c.index-clause-found.result ≡ literal_at h.clause c.args.found = literal_is c.clause.result.now h.clause c.args.found c.index-clause-found.result c.clause.ensures found.0 c.index-clause-found.is in
    let m : Contains h.clause c.index-clause-found.result = subst (Contains h.clause) (sym lit) (Contains-get_or h.clause c.args.found _ found.0) in
    subst (λ k. Contains (held_at o.hand.held k).clause c.index-clause-found.result) index m
