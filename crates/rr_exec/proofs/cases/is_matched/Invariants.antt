use Rattle.std.proofs.Common.{◌≡◌, drop}
use Rattle.rr_syntax.specs.View.{plain_list}
use Rattle.rr_expr.specs.Scopes.{env_of}
use Rattle.rr_cycle.specs.Exec.{is_matched}
use Rattle.rr_exec.proofs.cases.is_matched.Given as goal

abbrev pub invariant-loop-label : goal.invariant-loop-label
invariant-loop-label l =
    is_matched l.scope l.selector.kind.0 l.selector.shape l.selector.value (plain_list (drop l.label-index l.labels)) (env_of l.env.values.items)
    ≡ is_matched l.scope l.selector.kind.0 l.selector.shape l.selector.value (plain_list l.labels) (env_of l.env.values.items)
