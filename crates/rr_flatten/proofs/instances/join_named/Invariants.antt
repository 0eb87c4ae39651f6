use Rattle.std.proofs.Common.{◌≡◌, map, drop, fold}
use Rattle.rr_syntax.specs.View.{plain_connection}
use Rattle.rr_flatten.specs.Kept.{plain_walked, IsSame}
use Rattle.rr_flatten.specs.Walk.{join_named}
use Rattle.rr_flatten.proofs.instances.join_named.Given as goal

abbrev pub invariant-loop-one : goal.invariant-loop-one
invariant-loop-one l = record {
  walked : fold (join_named l.number l.inner) (plain_walked l.walked) (map plain_connection (drop l.one-index l.list)) ≡ fold (join_named l.number l.inner) (plain_walked l.fn.walked) (map plain_connection l.list);
  same : IsSame l.fn.walked l.walked;
}
