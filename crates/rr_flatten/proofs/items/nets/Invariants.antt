use Rattle.std.proofs.Common.{◌≡◌, map, drop}
use Rattle.rr_syntax.specs.View.{plain_declarator}
use Rattle.rr_flat.specs.Faults.{each}
use Rattle.rr_flatten.specs.Kept.{plain_walked, IsSame}
use Rattle.rr_flatten.specs.Walk.{net}
use Rattle.rr_flatten.proofs.items.nets.Given as goal

abbrev pub invariant-loop-one : goal.invariant-loop-one
invariant-loop-one l = record {
  walked : each (net l.number) (map plain_declarator (drop l.one-index l.list)) (plain_walked l.walked) ≡ each (net l.number) (map plain_declarator l.list) (plain_walked l.fn.walked);
  same : IsSame l.fn.walked l.walked;
}
