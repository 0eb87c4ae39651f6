use Rattle.std.proofs.Common.{◌≡◌, map, take}
use Rattle.rr_syntax.specs.View.{plain_pair}
use Rattle.rr_instance.specs.Instances.{instance_pair}
use Rattle.rr_source_instance.proofs.source.new_pairs.Given as goal

abbrev pub invariant-loop-one : goal.invariant-loop-one
invariant-loop-one l = map plain_pair l.list.items ≡ map (instance_pair l.sites l.choice.picks.items) (map plain_pair (take l.one-index l.old))
