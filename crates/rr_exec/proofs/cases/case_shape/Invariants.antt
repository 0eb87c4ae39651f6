use Rattle.std.proofs.Common.{◌≡◌, ◌≤◌, drop}
use Rattle.rr_syntax.specs.View.{plain, plain_arms}
use Rattle.rr_expr.specs.Values.{form}
use Rattle.rr_cycle.specs.Exec.{case_shape, joined_labels}
use Rattle.rr_exec.proofs.cases.case_shape.Given as goal

abbrev pub invariant-loop-arm : goal.invariant-loop-arm
invariant-loop-arm l = record {
  shape : joined_labels l.scope l.all (plain_arms (drop l.arm-index l.arms)) ≡ case_shape l.scope (plain l.on) (plain_arms l.arms);
  low : (form l.scope (plain l.on)).width ≤ l.all.width;
  high : l.all.width ≤ 128;
}
