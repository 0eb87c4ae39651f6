use Rattle.std.proofs.Common.{drop}
use Rattle.rr_syntax.specs.Words.{words, mark_close_parenthesis}
use Rattle.rr_parse_expr.specs.Reading.{below}
use Rattle.rr_parse_stmt.specs.Reading.{setting}
use Rattle.rr_parse_stmt.proofs.LoopHeads.{setting_found, no_setting, head_unstepped, made_head}
use Rattle.rr_parse_stmt.proofs.heads.head_step.Goals as goal

pub returns-in-None : goal.returns-in-None
returns-in-None c = head_unstepped c.args.tokens.now c.args.from c.args.room c.args.start c.requires.opened c.requires.start_read c.args.test c.requires.test_read (no_setting c.args.tokens.now c.args.test.next (setting (below c.args.room) mark_close_parenthesis (drop c.args.test.next (words c.args.tokens.now))) c.in_ok-setting.field-0 c.in-None.is c.in_ok-setting.ensures)

pub returns-in-Some : goal.returns-in-Some
returns-in-Some c = made_head c.args.tokens.now c.args.from c.args.room c.args.start c.requires.opened c.requires.start_read c.args.test c.in-Some.step c.requires.test_read (setting_found c.args.tokens.now c.args.test.next (setting (below c.args.room) mark_close_parenthesis (drop c.args.test.next (words c.args.tokens.now))) c.in_ok-setting.field-0 c.in-Some.step c.in-Some.is c.in_ok-setting.ensures)
