use Rattle.std.proofs.Common.{◌∙◌, ap, length}
use Rattle.rr_wiring.proofs.Widths.{length_value}
use Rattle.rr_blast_expr.proofs.operands.constant_word.Goals as goal

pub returns-clause-width : goal.returns-clause-width
returns-clause-width c = c.in_ok-out.ensures.width ∙ ap length c.value-bits.ensures ∙ length_value c.args.scope.now _ _ c.args.context.width c.args.context.signed
