use Rattle.std.proofs.Common.{◌≡◌, map, take}
use Rattle.rr_syntax.specs.View.{plain_instance}
use Rattle.rr_instance.specs.Instances.{instance_child}
use Rattle.rr_source_instance.proofs.source.new_children.Given as goal

abbrev pub invariant-loop-one : goal.invariant-loop-one
invariant-loop-one l = map plain_instance l.list.items ≡ map (instance_child l.sites l.choice.picks.items) (map plain_instance (take l.one-index l.old))
