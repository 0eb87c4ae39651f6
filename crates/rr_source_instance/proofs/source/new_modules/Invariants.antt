use Rattle.std.proofs.Common.{◌≡◌, map, take}
use Rattle.rr_syntax.specs.View.{plain_module}
use Rattle.rr_instance.specs.Instances.{instance_module}
use Rattle.rr_source_instance.proofs.source.new_modules.Given as goal

abbrev pub invariant-loop-one : goal.invariant-loop-one
invariant-loop-one l = map plain_module l.list.items ≡ map (instance_module l.sites l.choice.picks.items) (map plain_module (take l.one-index l.old))
