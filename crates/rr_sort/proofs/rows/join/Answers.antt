use Rattle.rr_sort.proofs.Sorting.{join_is}
use Rattle.rr_sort.proofs.rows.join.Goals as goal

pub returns : goal.returns
returns c = join_is c.args.rows.now.items c.args.from c.args.to c.index_mut.result.now c.push.new.self c.requires c.index_mut.ensures.value c.in_ok-push.ensures.items
