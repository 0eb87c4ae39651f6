use Rattle.std.proofs.Common.{◌≡◌, take}
use Rattle.rr_syntax.specs.Items.{spell_connection}
use Rattle.rr_syntax.specs.View.{plain_connection}
use Rattle.rr_syntax.proofs.ItemLengths.{each_len}
use Rattle.rr_syntax.proofs.spelling.named_len.Given as goal

abbrev pub invariant-loop-connection : goal.invariant-loop-connection
invariant-loop-connection l = l.total ≡ each_len spell_connection plain_connection (take l.connection-index l.list)
