use Rattle.std.proofs.Common.{◌≡◌, take}
use Rattle.rr_syntax.specs.Items.{spell_module}
use Rattle.rr_syntax.specs.View.{plain_module}
use Rattle.rr_syntax.proofs.ItemLengths.{all_len}
use Rattle.rr_syntax.proofs.spelling.spell_len.Given as goal

abbrev pub invariant-loop-module : goal.invariant-loop-module
invariant-loop-module l = l.total ≡ all_len spell_module plain_module (take l.module-index l.module-items)
