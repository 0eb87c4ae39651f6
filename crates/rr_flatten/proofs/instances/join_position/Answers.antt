use Rattle.rr_flatten.proofs.Grown.{position_joined, position_left}
use Rattle.rr_flatten.proofs.instances.join_position.Goals as goal

pub returns-then-place-ports-clause-value : goal.returns-then-place-ports-clause-value
returns-then-place-ports-clause-value c = λ rest. position_joined c.args.number c.args.inner c.args.ports.now c.args.place _ _ rest _ _ c.if-place-ports.true c.in_ok-join.ensures.value

pub returns-clause-value : goal.returns-clause-value
returns-clause-value c = λ rest. position_left c.args.number c.args.inner c.args.ports.now c.args.place _ rest _ c.if-place-ports.false
