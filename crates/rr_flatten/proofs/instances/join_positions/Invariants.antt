use Rattle.std.proofs.Common.{◌≡◌, drop}
use Rattle.rr_syntax.specs.View.{plain_list, texts}
use Rattle.rr_flatten.specs.Kept.{plain_walked, IsSame}
use Rattle.rr_flatten.specs.Walk.{join_positions}
use Rattle.rr_flatten.proofs.instances.join_positions.Given as goal

abbrev pub invariant-loop-place : goal.invariant-loop-place
invariant-loop-place l = record {
  walked : join_positions l.number l.inner (drop l.place (texts l.ports)) (plain_list (drop l.place l.list)) (plain_walked l.walked) ≡ join_positions l.number l.inner (texts l.ports) (plain_list l.list) (plain_walked l.fn.walked);
  same : IsSame l.fn.walked l.walked;
}
