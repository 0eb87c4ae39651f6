use Rattle.std.proofs.Common.{◌≡◌, ◌+◌, ◌*◌, map, drop}
use Rattle.rr_syntax.specs.View.{plain_item, plain_instance, plain_overrides}
use Rattle.rr_flat.specs.Faults.{each}
use Rattle.rr_flatten.specs.Kept.{plain_walked, modules_of, Keeps}
use Rattle.rr_flatten.specs.Walk.{item, instance_of, enter}
use Rattle.rr_flatten.proofs.walk.+walk.Given as goal

abbrev pub decreases-enter : goal.decreases-enter
decreases-enter l = 6 * l.levels

abbrev pub decreases-items : goal.decreases-items
decreases-items l = 6 * l.levels + 5

abbrev pub decreases-item : goal.decreases-item
decreases-item l = 6 * l.levels + 4

abbrev pub decreases-instances : goal.decreases-instances
decreases-instances l = 6 * l.levels + 3

abbrev pub decreases-instance : goal.decreases-instance
decreases-instance l = 6 * l.levels + 2

abbrev pub decreases-inside : goal.decreases-inside
decreases-inside l = 6 * l.levels + 1

abbrev pub invariant-items-loop-one : goal.invariant-items-loop-one
invariant-items-loop-one l = record {
  walked : each (item (modules_of l.walk) l.walk.table l.above l.number (enter (modules_of l.walk) l.walk.table l.levels l.above)) (map plain_item (drop l.one-index l.list)) (plain_walked l.walked)
      ≡ each (item (modules_of l.walk) l.walk.table l.above l.number (enter (modules_of l.walk) l.walk.table l.levels l.above)) (map plain_item l.list) (plain_walked l.fn.walked);
  kept : Keeps l.number l.fn.walked l.walked;
}

abbrev pub invariant-instances-loop-one : goal.invariant-instances-loop-one
invariant-instances-loop-one l = record {
  walked : each (instance_of (modules_of l.walk) l.above l.number (enter (modules_of l.walk) l.walk.table l.levels l.above) l.token (plain_overrides l.over) l.owner) (map plain_instance (drop l.one-index l.list)) (plain_walked l.walked)
      ≡ each (instance_of (modules_of l.walk) l.above l.number (enter (modules_of l.walk) l.walk.table l.levels l.above) l.token (plain_overrides l.over) l.owner) (map plain_instance l.list) (plain_walked l.fn.walked);
  kept : Keeps l.number l.fn.walked l.walked;
}
