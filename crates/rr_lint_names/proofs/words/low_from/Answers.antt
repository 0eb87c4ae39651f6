use Rattle.std.proofs.Common.{nat_eq}
use Rattle.indexmap.specs.IndexMap.{get}
use Rattle.rr_lint_names.proofs.KeptWords.{low_here, none_all, none_more, none_start}
use Rattle.rr_lint_names.proofs.words.low_from.Goals as goal

pub loop-word-init : goal.loop-word-init
loop-word-init c = record { done = none_start (get nat_eq c.args.lows.now) c.args.first c.args.width }

pub loop-word-preserved : goal.loop-word-preserved
loop-word-preserved c = record {
  done = none_more (get nat_eq c.args.lows.now) c.args.first c.args.width c.loop-word.word c.in_ok-signal.signal c.loop-word.invariant.done c.in_ok-signal.ensures (rw c.in_default.is at c.low_place.ensures.none);
}

pub returns-in-Some-clause-some : goal.returns-in-Some-clause-some
returns-in-Some-clause-some c =
    low_here (get nat_eq c.args.lows.now) c.args.first c.args.width c.args.words c.loop-word.word c.in_ok-signal.signal c.in-Some.place c.in_ok-signal.ensures c.loop-word-test.true (rw c.in-Some.is at c.low_place.ensures.some)
    (rw c.in-Some.is at c.low_place.ensures.below)

pub returns-clause-none : goal.returns-clause-none
returns-clause-none c = none_all (get nat_eq c.args.lows.now) c.args.first c.args.width c.args.words c.loop-word.word c.loop-word-test.false c.loop-word.invariant.done
