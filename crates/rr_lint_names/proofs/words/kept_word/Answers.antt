use Rattle.std.proofs.Common.{nat_eq}
use Rattle.indexmap.specs.IndexMap.{get}
use Rattle.rr_lint_names.proofs.KeptWords.{target_some, targets_all, targets_next, targets_none}
use Rattle.rr_lint_names.proofs.words.kept_word.Goals as goal

pub loop-target-init : goal.loop-target-init
loop-target-init c = record { done = targets_none c.args.names.now (get nat_eq c.args.lows.now) c.args.targets.now }

pub loop-target-preserved : goal.loop-target-preserved
loop-target-preserved c = record {
  done = targets_next c.args.names.now (get nat_eq c.args.lows.now) c.args.targets.now c.loop-target.target-index _ c.loop-target-test.true c.loop-target.invariant.done (rw c.in_default.is at c.in_ok-bit.ensures.none);
}

pub returns-in-Some-clause-some : goal.returns-in-Some-clause-some
returns-in-Some-clause-some c =
    target_some c.args.names.now (get nat_eq c.args.lows.now) c.args.targets.now c.loop-target.target-index _ c.in-Some.bit c.loop-target-test.true (rw c.in-Some.is at c.in_ok-bit.ensures.some)

pub returns-clause-none : goal.returns-clause-none
returns-clause-none c = targets_all c.args.names.now (get nat_eq c.args.lows.now) c.args.targets.now c.loop-target.target-index c.loop-target-test.false c.loop-target.invariant.done
