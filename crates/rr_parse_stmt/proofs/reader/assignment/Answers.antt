use Rattle.std.proofs.Common.{◌∙◌, drop, sym}
use Rattle.rr_syntax.specs.Words.{words}
use Rattle.rr_parse_expr.specs.Reading.{below}
use Rattle.rr_parse_stmt.specs.Reading.{target}
use Rattle.rr_parse_stmt.proofs.Choices.{target_some, no_target, target_fails, sign_fails}
use Rattle.rr_parse_stmt.proofs.reader.assignment.Goals as goal

pub returns-in-None : goal.returns-in-None
returns-in-None c = target_fails c.args.tokens.now c.args.from c.args.limit (no_target c.args.tokens.now c.args.from (target (below c.args.limit) (drop c.args.from (words c.args.tokens.now))) c.in_ok-target.field-0 c.in-None.is c.in_ok-target.ensures)

pub returns-in-None-sign_at : goal.returns-in-None-sign_at
returns-in-None-sign_at c = sign_fails c.args.tokens.now c.args.from c.args.limit c.in-Some.left (target_some c.args.tokens.now c.args.from (target (below c.args.limit) (drop c.args.from (words c.args.tokens.now))) c.in_ok-target.field-0 c.in-Some.left c.in-Some.is c.in_ok-target.ensures) (sym c.sign_at.ensures ∙ c.in-None-sign_at.is)

pub assigned-requires-clause-left_read : goal.assigned-requires-clause-left_read
assigned-requires-clause-left_read c = target_some c.args.tokens.now c.args.from (target (below c.args.limit) (drop c.args.from (words c.args.tokens.now))) c.in_ok-target.field-0 c.in-Some.left c.in-Some.is c.in_ok-target.ensures

pub assigned-requires-clause-mark_read : goal.assigned-requires-clause-mark_read
assigned-requires-clause-mark_read c = sym c.sign_at.ensures ∙ c.in-Some-sign_at.is
