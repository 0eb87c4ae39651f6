use Rattle.std.proofs.Common.{◌≡◌, drop}
use Rattle.rr_syntax.specs.View.{plain_list}
use Rattle.rr_flat.specs.Writers.{are_wiring}
use Rattle.rr_order.proofs.wiring.+wiring.Given as goal

abbrev pub invariant-are_wiring-loop-expr : goal.invariant-are_wiring-loop-expr
invariant-are_wiring-loop-expr l = are_wiring l.scope (plain_list (drop l.expr-index l.list)) ≡ are_wiring l.scope (plain_list l.list)
