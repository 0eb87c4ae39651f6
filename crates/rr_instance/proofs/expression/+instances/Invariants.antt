use Rattle.std.proofs.Common.{◌≡◌, take}
use Rattle.rr_syntax.specs.View.{plain_list}
use Rattle.rr_instance.specs.Instances.{instance_parts}
use Rattle.rr_instance.proofs.expression.+instances.Given as goal

abbrev pub invariant-expression_instances-loop-expr : goal.invariant-expression_instances-loop-expr
invariant-expression_instances-loop-expr l = plain_list l.parts.items ≡ instance_parts l.sites l.choice.picks.items (plain_list (take l.expr-index l.list))
