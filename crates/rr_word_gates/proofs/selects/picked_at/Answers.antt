use Rattle.std.proofs.Common.{arith, refl, pos}
use Rattle.rr_expr.specs.Indices.{integer_of}
use Rattle.rr_expr.proofs.Indices.{place_far}
use Rattle.rr_word_gates.proofs.SelectLaws.{picked_far}
use Rattle.rr_word_gates.proofs.selects.picked_at.Goals as goal

pub returns-in_ok-out-in-None-clause-value : goal.returns-in_ok-out-in-None-clause-value
returns-in_ok-out-in-None-clause-value c =
    picked_far _ _ _ _ _ (pos 0) _ refl c.requires.size c.requires.count (place_far c.args.range (integer_of c.args.index) c.args.below (omega arith) c.requires.below c.in-None.ensures.none) c.in_ok-out-in-None.ensures.value
