use Rattle.std.proofs.Common.{◌≡◌, take}
use Rattle.rr_syntax.proofs.Depths.{list_height}
use Rattle.rr_syntax.proofs.nesting.+expression_depths.Given as goal

abbrev pub invariant-parts_height-loop-part : goal.invariant-parts_height-loop-part
invariant-parts_height-loop-part l = l.deepest ≡ list_height (take l.part-index l.parts)
