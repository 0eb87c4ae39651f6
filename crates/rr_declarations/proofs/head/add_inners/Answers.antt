use Rattle.std.proofs.Common.{◌∙◌, ap, map, drop, fold, ◌+◌}
use Rattle.rr_declarations.specs.Heads.{with_inner}
use Rattle.rr_declarations.specs.View.{plain_declared, plain_list}
use Rattle.rr_declarations.proofs.Steps.{fold_more}
use Rattle.rr_declarations.proofs.head.add_inners.Goals as goal

pub loop-declared-preserved : goal.loop-declared-preserved
loop-declared-preserved c = record {
  value = ap (λ s. fold with_inner s (map plain_declared (drop (c.loop-declared.declared-index + 1) c.args.list.now))) c.in_ok-add_inner.ensures.value ∙ (fold_more plain_declared with_inner c.args.list.now c.loop-declared.declared-index _ (plain_list c.loop-declared.order.items) c.loop-declared-test.true ∙ c.loop-declared.invariant.value);
  sound = λ i all h. c.in_ok-add_inner.ensures.sound i (all c.loop-declared.declared-index _ c.loop-declared-test.true) (c.loop-declared.invariant.sound i all h);
}
