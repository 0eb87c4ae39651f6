use Rattle.std.proofs.Common.{◌≡◌, map, take}
use Rattle.rr_syntax.specs.View.{plain_connection}
use Rattle.rr_instance.specs.Instances.{instance_connection}
use Rattle.rr_source_instance.proofs.source.new_named.Given as goal

abbrev pub invariant-loop-one : goal.invariant-loop-one
invariant-loop-one l = map plain_connection l.list.items ≡ map (instance_connection l.sites l.choice.picks.items) (map plain_connection (take l.one-index l.old))
