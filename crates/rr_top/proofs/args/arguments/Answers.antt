use Rattle.std.proofs.Common.{◌∙◌, sym, ap}
use Rattle.std.specs.Vec.Iter.{into_iter_items}
use Rattle.rr_top.proofs.Taken.{one_more, none_left}
use Rattle.rr_top.proofs.args.arguments.Goals as goal

-- one argument more
pub loop-word-preserved : goal.loop-word-preserved
loop-word-preserved c =
    let step = rw c.in-Some.is at c.next.ensures.steps in
    one_more (into_iter_items c.into_iter-word-iterator.result) c.loop-word.words.items (into_iter_items c.loop-word.word-iterator) c.loop-word.invariant
    c.in-Some.word (into_iter_items c.next.new.self) c.push.new.self.items step.0 c.in-Ok-push.ensures.items

-- .. and none is left
pub returns : goal.returns
returns c =
    let end = rw c.in-None.is at c.next.ensures.steps in
    let all = none_left (into_iter_items c.into_iter-word-iterator.result) c.loop-word.words.items (into_iter_items c.loop-word.word-iterator) c.loop-word.invariant (sym c.loop-word.word-iterator.rest.ok.0 ∙ end.0) in
    rw c.in-Ok.is (all ∙ ap into_iter_items c.into_iter-word-iterator.ensures.into_iter_gives)
