use Rattle.std.proofs.Common.{sym, subst}
use Rattle.std.proofs.lemmas.List.Elements.{All-contains, Contains-get_or}
use Rattle.rr_cnf.specs.Clauses.{IsWithin}
use Rattle.rr_cnf.specs.Codes.{code_of}
use Rattle.rr_watch_lists.specs.WatchLists.{blocker_of, nobody}
use Rattle.rr_watch_lists.specs.Holdings.{held_at}
use Rattle.rr_watch.specs.Lists.{IsWatcher}
use Rattle.rr_watch_lists.specs.Lists.{list_at, watcher_at}
use Rattle.rr_watch.proofs.propagator.Propagator.watcher.Goals as goal

pub returns-clause-watches : goal.returns-clause-watches
returns-clause-watches c =
    let o = c.args.self.now in
    let q = c.args.falsified in
    subst (IsWatcher o.hand.held (code_of q)) (sym c.entry.ensures) (c.requires.whole.listed (code_of q) (watcher_at o.lists q c.args.at) (Contains-get_or (list_at o.lists (code_of q)).entries c.args.at nobody c.requires.at))

pub returns-clause-blocker : goal.returns-clause-blocker
returns-clause-blocker c =
    let o = c.args.self.now in
    let q = c.args.falsified in
    let w : IsWatcher o.hand.held (code_of q) c.entry.result = subst (IsWatcher o.hand.held (code_of q)) (sym c.entry.ensures) (c.requires.whole.listed (code_of q) (watcher_at o.lists q c.args.at) (Contains-get_or (list_at o.lists (code_of q)).entries c.args.at nobody c.requires.at)) in
    All-contains (IsWithin o.trail.vars) (held_at o.hand.held c.entry.result.place).clause (blocker_of c.entry.result) (c.requires.whole.within c.entry.result.place w.inside) w.member
