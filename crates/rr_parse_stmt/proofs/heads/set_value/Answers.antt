use Rattle.std.proofs.Common.{lit<, ◌+◌, drop, arith}
use Rattle.rr_syntax.specs.Words.{words, mark_equals}
use Rattle.rr_parse_expr.specs.Reading.{below, closed}
use Rattle.rr_parse_expr.proofs.Answered.{mark_inside}
use Rattle.rr_parse_expr.proofs.FrontMarks.{mark_differs, mark_stands}
use Rattle.rr_parse_stmt.proofs.Answered.{tree_some, tree_none}
use Rattle.rr_parse_stmt.proofs.LoopHeads.{made_setting, setting_unset, setting_unvalued}
use Rattle.rr_parse_stmt.proofs.heads.set_value.Goals as goal

pub returns-then-not-is_mark : goal.returns-then-not-is_mark
returns-then-not-is_mark c = setting_unset c.args.tokens.now c.args.from c.args.room c.args.mark.0 c.args.name c.requires.name_read (mark_differs _ c.is_mark.ensures c.if-not-is_mark.true (lit< tt))

pub overflow_add-from-2 : goal.overflow_add-from-2
overflow_add-from-2 c = let h = mark_inside c.args.tokens.now (c.args.from + 1) mark_equals (mark_stands _ c.is_mark.ensures c.if-not-is_mark.false) (omega arith) in omega arith

pub returns-in-None : goal.returns-in-None
returns-in-None c = setting_unvalued c.args.tokens.now c.args.from c.args.room c.args.mark.0 c.args.name c.requires.name_read (mark_stands _ c.is_mark.ensures c.if-not-is_mark.false) (tree_none c.args.tokens.now (c.args.from + 2) 1 (closed (below c.args.room) c.args.mark.0 (drop (c.args.from + 2) (words c.args.tokens.now))) c.in_ok-closed.field-0 c.in-None.is c.in_ok-closed.ensures)

pub returns-in-Some : goal.returns-in-Some
returns-in-Some c = made_setting c.args.tokens.now c.args.from c.args.room c.args.mark.0 c.args.name c.in-Some.value c.requires.name_read (mark_stands _ c.is_mark.ensures c.if-not-is_mark.false) (tree_some c.args.tokens.now (c.args.from + 2) 1 (closed (below c.args.room) c.args.mark.0 (drop (c.args.from + 2) (words c.args.tokens.now))) c.in_ok-closed.field-0 c.in-Some.value c.in-Some.is c.in_ok-closed.ensures)
