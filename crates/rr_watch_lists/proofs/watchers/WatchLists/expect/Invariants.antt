use Rattle.std.proofs.Common.{take}
use Rattle.rr_watch_lists.specs.Lists.{HasRoom}
use Rattle.rr_watch_lists.proofs.watchers.WatchLists.expect.Given as goal

abbrev pub invariant-loop-lit : goal.invariant-loop-lit
invariant-loop-lit l = HasRoom l.fn.self l.self (take l.lit-index l.clause)
