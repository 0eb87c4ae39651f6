use Rattle.std.proofs.Common.{◌≡◌, take}
use Rattle.rr_syntax.specs.Items.{depth_declarator}
use Rattle.rr_syntax.specs.View.{plain_declarator}
use Rattle.rr_syntax.proofs.Depths.{all_height}
use Rattle.rr_syntax.proofs.nesting.declarators_height.Given as goal

abbrev pub invariant-loop-declarator : goal.invariant-loop-declarator
invariant-loop-declarator l = l.deepest ≡ all_height depth_declarator plain_declarator (take l.declarator-index l.names)
