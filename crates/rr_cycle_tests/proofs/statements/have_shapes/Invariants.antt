use Rattle.std.proofs.Common.{◌≡◌, [], take}
use Rattle.rr_syntax.specs.View.{plain_list}
use Rattle.rr_flat.specs.Shapes.{list_faults}
use Rattle.rr_cycle_tests.proofs.statements.have_shapes.Given as goal

abbrev pub invariant-loop-expr : goal.invariant-loop-expr
invariant-loop-expr l = list_faults l.scope (plain_list (take l.expr-index l.list)) ≡ []
