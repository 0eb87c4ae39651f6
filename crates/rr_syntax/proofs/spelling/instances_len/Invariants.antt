use Rattle.std.proofs.Common.{◌≡◌, take}
use Rattle.rr_syntax.specs.Items.{spell_instance}
use Rattle.rr_syntax.specs.View.{plain_instance}
use Rattle.rr_syntax.proofs.ItemLengths.{each_len}
use Rattle.rr_syntax.proofs.spelling.instances_len.Given as goal

abbrev pub invariant-loop-instance : goal.invariant-loop-instance
invariant-loop-instance l = l.total ≡ each_len spell_instance plain_instance (take l.instance-index l.list)
