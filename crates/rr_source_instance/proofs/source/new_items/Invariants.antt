use Rattle.std.proofs.Common.{◌≡◌, map, take}
use Rattle.rr_syntax.specs.View.{plain_item}
use Rattle.rr_instance.specs.Instances.{instance_item}
use Rattle.rr_source_instance.proofs.source.new_items.Given as goal

abbrev pub invariant-loop-one : goal.invariant-loop-one
invariant-loop-one l = map plain_item l.list.items ≡ map (instance_item l.sites l.choice.picks.items) (map plain_item (take l.one-index l.old))
