use Rattle.std.proofs.Common.{rules, refl, length}
use Rattle.rr_check.proofs.Joins.{covers-more, parts-more}
use Rattle.rr_check.proofs.part.parts_of.Goals as goal

pub loop-preserved : goal.loop-preserved
loop-preserved c =
    let lines = c.args.lines.now in
    let i = c.loop.invariant in
    let e = c.end_of-end.ensures in
    record {
      count = refl;
      low = e.high;
      made = let m = i.made in let l = c.in_ok-push.ensures.len in search rules;
      parts = rw c.in_ok-push.ensures.items (parts-more lines c.loop.parts.items (record { start = c.loop.start; end = c.end_of-end.result }) i.parts (e.low, e.high));
      covers = rw c.in_ok-push.ensures.items (covers-more 0 c.loop.start c.loop.parts.items (record { start = c.loop.start; end = c.end_of-end.result }) i.covers refl e.low);
    }

pub returns-clause-covers : goal.returns-clause-covers
returns-clause-covers c =
    rw c.in_ok-push-2.ensures.items (covers-more 0 c.loop.start c.loop.parts.items (record { start = c.loop.start; end = length c.args.lines.now }) c.loop.invariant.covers refl c.loop.invariant.low)
