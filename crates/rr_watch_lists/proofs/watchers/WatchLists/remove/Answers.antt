use Rattle.std.proofs.Common.{◌<◌, ◌+◌, ◌-◌, sym, subst, length, set}
use Rattle.rr_watch_lists.specs.Lists.{Unlisted, list_at}
use Rattle.rr_watch_lists.specs.Spans.{lists_in}
use Rattle.rr_watch_lists.proofs.SpanLaws.{removed}
use Rattle.rr_watch_lists.proofs.watchers.WatchLists.remove.Goals as goal

pub returns : goal.returns
returns c =
    let h = c.self.inside in
    let v = c.args.self.now in
    let s = c.index-span.result.now in
    let w = c.index.result.now in
    let q = c.code-list.ensures in
    let b = subst (λ k. k < length v) (sym q) c.requires.lit in
    let here = subst (λ k. c.args.at < length (list_at v k).entries) (sym q) c.requires.at in
    subst (λ k. Unlisted v (lists_in (set h.entries.items (s.start + c.args.at) w) (set h.spans.items c.code-list.result (record s { len = s.len - 1 }))) k c.args.at) q
    (removed h.entries.items h.spans.items c.self.invariant v c.self.view_is c.code-list.result s b c.index-span.ensures c.args.at w here c.index.ensures)
