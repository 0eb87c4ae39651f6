use Rattle.std.proofs.Common.{◌≡◌, length}
use Rattle.std.specs.Prelude.{All}
use Rattle.rr_watch_lists.specs.Spans.{AreSpans}
use Rattle.rr_watch_lists.specs.declared.watchers.Span.{Span}
use Rattle.rr_watch_lists.proofs.watchers.WatchLists.new.Given as goal

abbrev pub invariant-loop-room : goal.invariant-loop-room
invariant-loop-room l = record {
  long : length l.spans.items ≡ l.room-index;
  empty : All (λ (s : Span). (s.len ≡ 0) × (s.uses ≡ 0)) l.spans.items;
  spans : AreSpans l.end l.spans.items;
}
