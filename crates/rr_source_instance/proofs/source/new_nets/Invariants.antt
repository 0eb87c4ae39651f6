use Rattle.std.proofs.Common.{◌≡◌, map, take}
use Rattle.rr_syntax.specs.View.{plain_declarator}
use Rattle.rr_instance.specs.Instances.{instance_net}
use Rattle.rr_source_instance.proofs.source.new_nets.Given as goal

abbrev pub invariant-loop-one : goal.invariant-loop-one
invariant-loop-one l = map plain_declarator l.list.items ≡ map (instance_net l.sites l.choice.picks.items) (map plain_declarator (take l.one-index l.old))
