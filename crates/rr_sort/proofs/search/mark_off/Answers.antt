use Rattle.std.proofs.Common.{map}
use Rattle.rr_sort.specs.Graphs.{names_of}
use Rattle.rr_sort.specs.Walks.{IsReached}
use Rattle.rr_sort.proofs.Searching.{off_set, spent_off, reached_seen}
use Rattle.rr_sort.proofs.search.mark_off.Goals as goal

pub returns-in-None-clause-off : goal.returns-in-None-clause-off
returns-in-None-clause-off c =
    let r : IsReached (map names_of c.args.graph.now) c.args.reached.now.reached.items c.next_name.new.seen.items c.args.reached.now.order.items =
    reached_seen (map names_of c.args.graph.now) c.args.reached.now.reached.items c.args.reached.now.seen.items c.next_name.new.seen.items c.args.reached.now.order.items c.requires.reached c.in-None.ensures.seen c.in-None.ensures.more in
    off_set (map names_of c.args.graph.now) c.args.off.now.items c.args.node c.requires.off
    (spent_off (map names_of c.args.graph.now) c.args.reached.now.reached.items c.next_name.new.seen.items c.args.node r.looked r.closed c.in-None.ensures.name c.requires.fresh)
