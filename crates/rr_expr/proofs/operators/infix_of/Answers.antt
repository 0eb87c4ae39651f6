use Rattle.std.proofs.Common.{arith}
use Rattle.std.proofs.lemmas.List.{get_or_default}
use Rattle.rr_expr.specs.Operators.{infixes}
use Rattle.rr_expr.specs.declared.operators.Infix.TheVariants.{Either}
use Rattle.rr_expr.proofs.Words.{no_infix}
use Rattle.rr_expr.proofs.operators.infix_of.Goals as goal

pub returns-then-op-gt44 : goal.returns-then-op-gt44
returns-then-op-gt44 c = no_infix c.args.op.0 c.if-op-gt44.true

pub returns : goal.returns
returns c = get_or_default infixes c.args.op.0 _ Either (omega (arith, c.if-op-gt44.false))
