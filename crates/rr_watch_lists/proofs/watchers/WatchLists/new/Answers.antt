use Rattle.rr_watch_lists.proofs.SpanLaws.{all_empty}
use Rattle.rr_watch_lists.proofs.watchers.WatchLists.new.Goals as goal

pub returns-clause-empty : goal.returns-clause-empty
returns-clause-empty c = all_empty c.in_ok-entries.entries.items c.loop-room.spans.items c.loop-room.invariant.empty
