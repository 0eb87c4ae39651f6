use Rattle.std.proofs.Common.{◌<◌, ◌+◌, sym, subst, length, set}
use Rattle.rr_watch_lists.specs.Lists.{Listed, list_at}
use Rattle.rr_watch_lists.specs.Spans.{lists_in}
use Rattle.rr_watch_lists.proofs.SpanLaws.{pushed}
use Rattle.rr_watch_lists.proofs.watchers.WatchLists.push.Goals as goal

pub returns : goal.returns
returns c =
    let h = c.self.inside in
    let v = c.args.self.now in
    let s = c.index-span.result.now in
    let w = c.args.watcher in
    let q = c.code-list.ensures in
    let b = subst (λ k. k < length v) (sym q) c.requires.lit in
    let room = subst (λ k. length (list_at v k).entries < (list_at v k).uses) (sym q) c.requires.room in
    subst (λ k. Listed v (lists_in (set h.entries.items (s.start + s.len) w) (set h.spans.items c.code-list.result (record s { len = s.len + 1 }))) k w) q
    (pushed h.entries.items h.spans.items c.self.invariant v c.self.view_is c.code-list.result s b c.index-span.ensures w room)
