use Rattle.std.proofs.Common.{◌∙◌, ap, map, drop, fold, ◌+◌}
use Rattle.rr_syntax.specs.View.{plain_declarator}
use Rattle.rr_declarations.specs.Heads.{with_declarator}
use Rattle.rr_declarations.specs.View.{plain_declarations, plain_list}
use Rattle.rr_declarations.proofs.Steps.{fold_more}
use Rattle.rr_declarations.proofs.head.add_declarators.Goals as goal

pub loop-declarator-preserved : goal.loop-declarator-preserved
unfolding plain_declarator
loop-declarator-preserved c = record {
  value = ap (λ s. fold (with_declarator (plain_declarations c.args.declared.now)) s (map plain_declarator (drop (c.loop-declarator.declarator-index + 1) c.args.names.now))) c.in_ok-add_port.ensures.value ∙ (fold_more plain_declarator (with_declarator (plain_declarations c.args.declared.now)) c.args.names.now c.loop-declarator.declarator-index _ (plain_list c.loop-declarator.order.items) c.loop-declarator-test.true ∙ c.loop-declarator.invariant.value);
  sound = λ h. c.in_ok-add_port.ensures.sound (c.loop-declarator.invariant.sound h);
}
