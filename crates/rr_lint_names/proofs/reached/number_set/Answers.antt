use Rattle.std.proofs.Common.{nat_eq, ap, ◌∙◌}
use Rattle.std.specs.List.{list_any}
use Rattle.indexmap.specs.IndexSet.{contains}
use Rattle.rr_lint_names.proofs.Lists.{any_full, any_step}
use Rattle.rr_lint_names.proofs.reached.number_set.Goals as goal

pub loop-number-preserved : goal.loop-number-preserved
loop-number-preserved c = record {
  done = λ k. any_step (nat_eq k) c.args.numbers.now c.loop-number.number-index _ (contains nat_eq c.loop-number.set k) (contains nat_eq c.add.new.set k) c.loop-number-test.true (c.loop-number.invariant.done k) (c.in_ok-add.ensures k);
}

pub loop-number-init : goal.loop-number-init
loop-number-init c = record { done = λ k. ap (list_any (nat_eq k)) c.new-set.ensures.empty }

pub returns : goal.returns
returns c = λ k. c.loop-number.invariant.done k ∙ any_full (nat_eq k) c.args.numbers.now c.loop-number.number-index c.loop-number-test.false
