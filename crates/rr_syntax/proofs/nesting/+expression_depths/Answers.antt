use Rattle.std.proofs.Common.{rules, arith, sym}
use Rattle.std.proofs.lemmas.Bool.Decides.{nat_tests}
use Rattle.rr_syntax.specs.declared.tree.Expr.{the_lemmas}
use Rattle.rr_syntax.proofs.Depths.{list_height, part_height, list_greatest}
use Rattle.rr_syntax.proofs.Sums.{greatest_within, greatest_next}
use Rattle.rr_syntax.proofs.nesting.+expression_depths.Goals as goal

pub parts_height-loop-part-init : goal.parts_height-loop-part-init
parts_height-loop-part-init t c = sym list_greatest.none

pub parts_height-expression_depth-requires : goal.parts_height-expression_depth-requires
parts_height-expression_depth-requires t c = (search (rules, the_lemmas), omega (arith, greatest_within list_height part_height list_greatest c.args.parts.now c.loop-part.part-index c.part-item.result c.loop-part-test.true c.part-item.is))

pub parts_height-overflow_add-expression_depth : goal.parts_height-overflow_add-expression_depth
parts_height-overflow_add-expression_depth t c = omega (arith, greatest_within list_height part_height list_greatest c.args.parts.now c.loop-part.part-index c.part-item.result c.loop-part-test.true c.part-item.is)

pub parts_height-loop-part-preserved : goal.parts_height-loop-part-preserved
parts_height-loop-part-preserved t c = grind (arith, nat_tests, greatest_next list_height part_height list_greatest c.args.parts.now c.loop-part.part-index c.part-item.result c.loop-part-test.true c.part-item.is)
