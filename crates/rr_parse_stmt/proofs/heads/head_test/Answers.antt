use Rattle.std.proofs.Common.{drop}
use Rattle.rr_syntax.specs.Words.{words, mark_semicolon}
use Rattle.rr_parse_expr.specs.Reading.{below, closed}
use Rattle.rr_parse_stmt.proofs.Answered.{tree_some, tree_none}
use Rattle.rr_parse_stmt.proofs.LoopHeads.{head_untested}
use Rattle.rr_parse_stmt.proofs.heads.head_test.Goals as goal

pub returns-in-None : goal.returns-in-None
returns-in-None c = head_untested c.args.tokens.now c.args.from c.args.room c.args.start c.requires.opened c.requires.start_read (tree_none c.args.tokens.now c.args.start.value.next 1 (closed (below c.args.room) mark_semicolon (drop c.args.start.value.next (words c.args.tokens.now))) c.in_ok-closed.field-0 c.in-None.is c.in_ok-closed.ensures)

pub head_step-requires-clause-test_read : goal.head_step-requires-clause-test_read
head_step-requires-clause-test_read c = tree_some c.args.tokens.now c.args.start.value.next 1 (closed (below c.args.room) mark_semicolon (drop c.args.start.value.next (words c.args.tokens.now))) c.in_ok-closed.field-0 c.in-Some.test c.in-Some.is c.in_ok-closed.ensures
