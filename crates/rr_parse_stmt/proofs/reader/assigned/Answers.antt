use Rattle.std.proofs.Common.{◌+◌, drop, arith}
use Rattle.rr_syntax.specs.Words.{words, mark_semicolon}
use Rattle.rr_parse_expr.specs.Reading.{below, closed}
use Rattle.rr_parse_stmt.proofs.Answered.{tree_some, tree_none}
use Rattle.rr_parse_stmt.proofs.Choices.{sign_inside, assign_fails, made_assign}
use Rattle.rr_parse_stmt.proofs.reader.assigned.Goals as goal

pub overflow_add-left : goal.overflow_add-left
overflow_add-left c = let h = sign_inside c.args.tokens.now c.args.left.next c.args.now c.requires.mark_read in omega arith

pub returns-in-None : goal.returns-in-None
returns-in-None c = assign_fails c.args.tokens.now c.args.from c.args.limit c.args.left c.requires.left_read (tree_none c.args.tokens.now (c.args.left.next + 1) 1 (closed (below c.args.limit) mark_semicolon (drop (c.args.left.next + 1) (words c.args.tokens.now))) c.in_ok-closed.field-0 c.in-None.is c.in_ok-closed.ensures)

pub returns-in-Some : goal.returns-in-Some
returns-in-Some c = made_assign c.args.tokens.now c.args.from c.args.limit c.args.left c.in-Some.value c.args.now c.requires.left_read c.requires.mark_read (tree_some c.args.tokens.now (c.args.left.next + 1) 1 (closed (below c.args.limit) mark_semicolon (drop (c.args.left.next + 1) (words c.args.tokens.now))) c.in_ok-closed.field-0 c.in-Some.value c.in-Some.is c.in_ok-closed.ensures)
