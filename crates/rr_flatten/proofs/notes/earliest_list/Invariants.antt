use Rattle.std.proofs.Common.{◌≡◌, drop, fold}
use Rattle.rr_syntax.specs.View.{plain_list}
use Rattle.rr_flat.specs.Faults.{earlier}
use Rattle.rr_flat.specs.Shapes.{list_faults}
use Rattle.rr_flatten.proofs.notes.earliest_list.Given as goal

abbrev pub invariant-loop-expr : goal.invariant-loop-expr
invariant-loop-expr l = fold earlier l.found (list_faults l.names (plain_list (drop l.expr-index l.list))) ≡ fold earlier l.fn.found (list_faults l.names (plain_list l.list))
