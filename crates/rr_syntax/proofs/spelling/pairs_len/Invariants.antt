use Rattle.std.proofs.Common.{◌≡◌, take}
use Rattle.rr_syntax.specs.Items.{spell_pair}
use Rattle.rr_syntax.specs.View.{plain_pair}
use Rattle.rr_syntax.proofs.ItemLengths.{each_len}
use Rattle.rr_syntax.proofs.spelling.pairs_len.Given as goal

abbrev pub invariant-loop-pair : goal.invariant-loop-pair
invariant-loop-pair l = l.total ≡ each_len spell_pair plain_pair (take l.pair-index l.pairs)
