use Rattle.std.proofs.Common.{◌∙◌, ap, map, drop, fold, ◌+◌}
use Rattle.rr_syntax.specs.View.{plain_port}
use Rattle.rr_declarations.specs.Heads.{with_ports}
use Rattle.rr_declarations.specs.View.{plain_declarations, plain_list}
use Rattle.rr_declarations.proofs.Steps.{fold_more}
use Rattle.rr_declarations.proofs.head.add_groups.Goals as goal

pub loop-group-preserved : goal.loop-group-preserved
loop-group-preserved c = record {
  value = ap (λ s. fold (with_ports (plain_declarations c.args.declared.now)) s (map plain_port (drop (c.loop-group.group-index + 1) c.args.groups.now))) c.in_ok-add_group.ensures.value ∙ (fold_more plain_port (with_ports (plain_declarations c.args.declared.now)) c.args.groups.now c.loop-group.group-index _ (plain_list c.loop-group.order.items) c.loop-group-test.true ∙ c.loop-group.invariant.value);
  sound = λ h. c.in_ok-add_group.ensures.sound (c.loop-group.invariant.sound h);
}
