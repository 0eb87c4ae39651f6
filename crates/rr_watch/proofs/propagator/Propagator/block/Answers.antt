use Rattle.std.proofs.Common.{◌∙◌, ap, sym, subst}
use Rattle.std.specs.Prelude.{Contains}
use Rattle.std.proofs.lemmas.Bool.{false≢true}
use Rattle.rr_cnf.specs.Codes.{code_of}
use Rattle.rr_watch_lists.specs.Holdings.{held_at}
use Rattle.rr_watch_lists.specs.WatchLists.{blocker_of}
use Rattle.rr_watch.specs.Lists.{IsServed, IsWatcher}
use Rattle.rr_watch_lists.specs.Lists.{watcher_at}
use Rattle.rr_watch.proofs.AdvanceLaws.{served_next}
use Rattle.rr_watch.proofs.BlockerLaws.{State-block, reblocked_length, served_blocked}
use Rattle.rr_watch.proofs.propagator.Propagator.block.Goals as goal

pub returns-clause-whole : goal.returns-clause-whole
returns-clause-whole c =
    let o = c.args.self.now in
    let q = c.args.falsified in
    let v = c.watcher.result in
    let w = c.blocked_by-watcher in
    let x = c.watcher.ensures.watches in
    let place = w.ensures.place ∙ ap (λ y. y.place) c.watcher.ensures.is in
    let member : Contains (held_at o.hand.held v.place).clause c.args.blocker = subst (λ y. Contains (held_at o.hand.held y.place).clause c.args.blocker) (sym c.watcher.ensures.is) c.requires.member in
    let blocks : Contains (held_at o.hand.held v.place).clause (blocker_of w.result) = subst (Contains (held_at o.hand.held v.place).clause) (sym w.ensures.blocker) member in
    let on : IsWatcher o.hand.held (code_of q) w.result = subst (λ k. IsWatcher o.hand.held (code_of q) (record { place = k; packed = w.result.packed })) (sym w.ensures.place)
    (record { inside = x.inside; placed = x.placed; member = blocks; brief = λ e. absurd (false≢true (sym w.ensures.brief ∙ e)) }) in
    State-block o.trail o.hand.held o.lists o.short.items o.settled o.head o.late c.requires.whole c.set.new.self q c.args.at w.result c.requires.at c.set.ensures place on

pub returns-clause-stepped : goal.returns-clause-stepped
returns-clause-stepped c =
    let o = c.args.self.now in
    let q = c.args.falsified in
    let w = c.blocked_by-watcher in
    let place = w.ensures.place ∙ ap (λ y. y.place) c.watcher.ensures.is in
    let here : IsServed o.trail.entries (held_at o.hand.held (watcher_at o.lists q c.args.at).place).clause = (c.args.blocker, (c.requires.member, c.requires.held)) in (
      served_blocked o.trail.entries o.hand.held o.lists c.set.new.self q c.args.at w.result c.requires.at c.set.ensures place _ (served_next o q c.args.at c.requires.served here),
      reblocked_length o.lists c.set.new.self (code_of q) c.args.at w.result c.set.ensures c.requires.at (code_of q),
    )
