use Rattle.std.proofs.Common.{◌∙◌, sym, subst, refl}
use Rattle.std.specs.Prelude.{Contains}
use Rattle.rr_trail.specs.Trails.{Forces, lits}
use Rattle.rr_watch_lists.specs.Holdings.{held_at}
use Rattle.rr_watch_lists.specs.WatchLists.{blocker_of}
use Rattle.rr_watch.specs.Lists.{IsServed, watching_at}
use Rattle.rr_watch.proofs.AdvanceLaws.{served_next, two_force}
use Rattle.rr_watch.proofs.propagator.Propagator.step.Goals as goal

pub returns-then-is_true-clause-stepped : goal.returns-then-is_true-clause-stepped
returns-then-is_true-clause-stepped c =
    let o = c.args.self.now in
    let q = c.args.falsified in
    let w = c.watcher-watcher.ensures.watches in
    let m = subst (Contains (lits o.trail.entries)) c.blocker.ensures (c.is_true.ensures.0 c.if-is_true.true) in
    let here : IsServed o.trail.entries (watching_at o q c.args.at).clause = subst (λ v. IsServed o.trail.entries (held_at o.hand.held v.place).clause) c.watcher-watcher.ensures.is (blocker_of c.watcher-watcher.result, (w.member, m)) in
    (served_next o q c.args.at c.requires.served here, refl)

pub settle-requires-clause-forces : goal.settle-requires-clause-forces
settle-requires-clause-forces c =
    let o = c.args.self.now in
    let q = c.args.falsified in
    let v = c.watcher-watcher.result in
    let w = c.watcher-watcher.ensures.watches in
    let f = two_force o q (held_at o.hand.held v.place).clause (blocker_of v) c.requires.next w.member (w.brief (sym c.is_brief.ensures ∙ c.if-is_brief.true)) in
    subst (λ l. Forces (lits o.trail.entries) (watching_at o q c.args.at).clause l) (sym c.blocker-then-is_brief.ensures)
    (subst (λ x. Forces (lits o.trail.entries) (held_at o.hand.held x.place).clause (blocker_of v)) c.watcher-watcher.ensures.is f)
