use Rattle.std.proofs.Common.{◌≡◌, drop, fold}
use Rattle.std.specs.Prelude.{flat_map}
use Rattle.rr_syntax.specs.View.{plain_statement}
use Rattle.rr_flat.specs.Faults.{sooner}
use Rattle.rr_loop_rules.specs.Rules.{loop_faults}
use Rattle.rr_loop_rules.specs.View.{plain_around}
use Rattle.rr_loop_rules.proofs.StatementNodes.{of_arm}
use Rattle.rr_loop_rules.proofs.statements.+noting.Given as goal

abbrev pub invariant-note_all_inside-loop-stmt : goal.invariant-note_all_inside-loop-stmt
invariant-note_all_inside-loop-stmt l = record {
  kept : plain_around l.around.items ≡ plain_around l.fn.around.items;
  noted : fold sooner l.found (flat_map (λ x. loop_faults l.names (plain_around l.fn.around.items) (plain_statement x)) (drop l.stmt-index l.body))
      ≡ fold sooner l.fn.found (flat_map (λ x. loop_faults l.names (plain_around l.fn.around.items) (plain_statement x)) l.body);
}

abbrev pub invariant-note_arms_inside-loop-arm : goal.invariant-note_arms_inside-loop-arm
invariant-note_arms_inside-loop-arm l = record {
  kept : plain_around l.around.items ≡ plain_around l.fn.around.items;
  noted : fold sooner l.found (flat_map (of_arm l.names (plain_around l.fn.around.items)) (drop l.arm-index l.arms)) ≡ fold sooner l.fn.found (flat_map (of_arm l.names (plain_around l.fn.around.items)) l.arms);
}
