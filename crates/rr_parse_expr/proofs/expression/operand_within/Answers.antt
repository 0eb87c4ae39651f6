use Rattle.std.proofs.Common.{refl}
use Rattle.rr_syntax.specs.Expressions.{unary_level}
use Rattle.rr_parse_expr.specs.Exact.{IsOperand}
use Rattle.rr_parse_expr.proofs.Exactly.{operands_read, is_longest, none_begins}
use Rattle.rr_parse_expr.proofs.expression.operand_within.Goals as goal

pub returns-in-Ok-None : goal.returns-in-Ok-None
returns-in-Ok-None c = (refl, none_begins IsOperand unary_level operands_read c.args.depth c.args.tokens.now c.args.from c.in-Ok-None.field-0 c.in-Ok-None.field-0-is c.in-Ok-None.ensures)

pub returns-in-Ok : goal.returns-in-Ok
returns-in-Ok c = is_longest IsOperand unary_level operands_read c.args.depth c.args.tokens.now c.args.from c.in-Ok-Some.field-0 c.in-Ok-Some.found c.in-Ok.place.now c.in-Ok-Some.field-0-is c.in-Ok.ensures c.in-Ok-Some.ensures
