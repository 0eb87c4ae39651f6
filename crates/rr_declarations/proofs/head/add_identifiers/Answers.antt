use Rattle.std.proofs.Common.{◌∙◌, ap, map, drop, fold, ◌+◌}
use Rattle.rr_syntax.specs.View.{plain_identifier}
use Rattle.rr_declarations.specs.Heads.{with_identifier}
use Rattle.rr_declarations.specs.View.{plain_declarations, plain_list}
use Rattle.rr_declarations.proofs.Steps.{fold_more}
use Rattle.rr_declarations.proofs.head.add_identifiers.Goals as goal

pub loop-named-preserved : goal.loop-named-preserved
unfolding plain_identifier
loop-named-preserved c = record {
  value = ap (λ s. fold (with_identifier (plain_declarations c.args.declared.now)) s (map plain_identifier (drop (c.loop-named.named-index + 1) c.args.names.now))) c.in_ok-add_port.ensures.value ∙ (fold_more plain_identifier (with_identifier (plain_declarations c.args.declared.now)) c.args.names.now c.loop-named.named-index _ (plain_list c.loop-named.order.items) c.loop-named-test.true ∙ c.loop-named.invariant.value);
  sound = λ h. c.in_ok-add_port.ensures.sound (c.loop-named.invariant.sound h);
}
