use Rattle.std.proofs.Common.{◌∙◌, ap}
use Rattle.rr_bits.specs.Words.{select}
use Rattle.rr_expr.specs.Selects.{place}
use Rattle.rr_expr.specs.Indices.{integer_of}
use Rattle.rr_expr.proofs.Indices.{unmoved}
use Rattle.rr_expr.proofs.selects.picked.Goals as goal

pub returns : goal.returns
returns c = c.selected.ensures ∙ ap (λ from. select c.args.word from c.args.width) (unmoved (place c.args.range (integer_of c.args.index)))
