use Rattle.std.proofs.Common.{◌∙◌, arith}
use Rattle.rr_expr.specs.Indices.{integer_of}
use Rattle.rr_expr.proofs.Indices.{select_far, place_far}
use Rattle.rr_expr.proofs.selects.selected.Goals as goal

pub returns-in-None : goal.returns-in-None
returns-in-None c = c.from_u128.ensures ∙ select_far _ _ _ c.requires.size c.requires.high (place_far c.args.range (integer_of c.args.index) c.args.below (omega arith) c.requires.near c.in-None.ensures.none)
