use Rattle.std.proofs.Common.{◌≡◌, take}
use Rattle.rr_syntax.specs.Items.{spell_port}
use Rattle.rr_syntax.specs.View.{plain_port}
use Rattle.rr_syntax.proofs.ItemLengths.{each_len}
use Rattle.rr_syntax.proofs.spelling.ports_len.Given as goal

abbrev pub invariant-loop-group : goal.invariant-loop-group
invariant-loop-group l = l.total ≡ each_len spell_port plain_port (take l.group-index l.groups)
