use Rattle.std.proofs.Common.{◌≡◌, drop, fold}
use Rattle.rr_syntax.specs.View.{plain_statements, plain_arms}
use Rattle.rr_flat.specs.Faults.{earlier}
use Rattle.rr_flat.specs.Shapes.{statements_faults, arms_faults}
use Rattle.rr_flatten.proofs.notes.+notes.Given as goal

abbrev pub invariant-note_statements-loop-stmt : goal.invariant-note_statements-loop-stmt
invariant-note_statements-loop-stmt l = fold earlier l.found (statements_faults l.names (plain_statements (drop l.stmt-index l.body))) ≡ fold earlier l.fn.found (statements_faults l.names (plain_statements l.body))

abbrev pub invariant-note_arms-loop-arm : goal.invariant-note_arms-loop-arm
invariant-note_arms-loop-arm l = fold earlier l.found (arms_faults l.names (plain_arms (drop l.arm-index l.arms))) ≡ fold earlier l.fn.found (arms_faults l.names (plain_arms l.arms))
