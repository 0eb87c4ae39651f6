use Rattle.std.proofs.Common.{sym, ◌∙◌}
use Rattle.rr_expr.proofs.Indices.{negative_reading}
use Rattle.rr_expr.proofs.selects.index_of.Goals as goal

pub returns-then-is_negative : goal.returns-then-is_negative
returns-then-is_negative c = rw (c.to_u128.ensures, c.negated.ensures) (negative_reading c.args.signed c.args.bits (sym c.is_negative.ensures ∙ c.if-is_negative.true))
