use Rattle.std.proofs.Common.{◌≡◌, take}
use Rattle.rr_syntax.specs.Items.{spell_declarator}
use Rattle.rr_syntax.specs.View.{plain_declarator}
use Rattle.rr_syntax.proofs.ItemLengths.{each_len}
use Rattle.rr_syntax.proofs.spelling.declarators_len.Given as goal

abbrev pub invariant-loop-declarator : goal.invariant-loop-declarator
invariant-loop-declarator l = l.total ≡ each_len spell_declarator plain_declarator (take l.declarator-index l.names)
