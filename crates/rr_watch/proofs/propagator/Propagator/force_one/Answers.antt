use Rattle.std.proofs.Common.{◌≡◌, ◌∙◌, ◌⊎◌, ◌<◌, ◌≤◌, inl, ap, sym, subst, arith, length, get_or}
use Rattle.std.specs.Prelude.{Contains}
use Rattle.std.proofs.lemmas.List.{get_or_default}
use Rattle.std.proofs.lemmas.List.Elements.{Contains-get_or}
use Rattle.rr_cnf.specs.Clauses.{Literal, negated}
use Rattle.rr_trail.specs.Trails.{lits}
use Rattle.rr_watch.specs.Watches.{Named}
use Rattle.rr_watch_lists.specs.Holdings.{all_numbered, held_at}
use Rattle.rr_watch.specs.Lists.{AreAlike}
use Rattle.rr_trail.proofs.EntryLaws.{All-from_contains}
use Rattle.rr_watch.proofs.WantLaws.{named_at}
use Rattle.rr_watch.proofs.propagator.Propagator.force_one.Goals as goal

pub enforce-requires-clause-forces : goal.enforce-requires-clause-forces
enforce-requires-clause-forces c =
    let o = c.args.self.now in
    let l = c.in-Some.lit.now in
    let h = held_at o.hand.held c.index.result.now in
    let at : c.index.result.now ≡ get_or o.short.items c.args.place 0 = c.index.ensures ∙ get_or_default o.short.items c.args.place c.index.result.now 0 c.requires.place in
    let alike : AreAlike h.clause = subst (λ i. AreAlike (held_at o.hand.held i).clause) (sym at) (c.requires.whole.shorts c.args.place c.requires.place).1 in
    let same = c.clause.ensures in
    let some : 0 < length c.clause.result.now = c.in-Some.ensures.item.3.0 in
    let read : l ≡ get_or c.clause.result.now 0 l = c.in-Some.ensures.item.1 in
    let m : Contains h.clause l = subst (λ x. Contains x l) same (subst (Contains c.clause.result.now) (sym read) (Contains-get_or c.clause.result.now 0 l some)) in
    record { member = m; others = All-from_contains (λ (x : Literal). (x ≡ l) ⊎ Contains (lits o.trail.entries) (negated x)) h.clause (λ x y. inl (alike x l y m)) }

pub returns-in-None-clause-conflict : goal.returns-in-None-clause-conflict
returns-in-None-clause-conflict c =
    let o = c.args.self.now in
    let i = c.index.result.now in
    let at : c.index.result.now ≡ get_or o.short.items c.args.place 0 = c.index.ensures ∙ get_or_default o.short.items c.args.place c.index.result.now 0 c.requires.place in
    let i_in : c.index.result.now < length o.hand.held = omega (arith, at, (c.requires.whole.shorts c.args.place c.requires.place).0) in
    let same = c.clause.ensures in
    let none : length c.clause.result.now ≤ 0 = c.in-None.ensures.item.3 in
    ((held_at o.hand.held i).clause, (subst (λ n. Named (all_numbered o.hand.held) n (held_at o.hand.held i).clause) (sym c.id.ensures) (named_at o.hand.held i i_in), λ k d h. absurd (omega (arith, none, ap length same))))
