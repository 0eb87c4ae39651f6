use Rattle.std.proofs.Common.{lit<, arith, ◌∙◌}
use Rattle.rr_parse.proofs.Founds.{mark_here}
use Rattle.rr_parse.proofs.MadeModules.{made_no_ports, made_port_list}
use Rattle.rr_parse_expr.proofs.Answered.{mark_inside}
use Rattle.rr_syntax.specs.Words.{mark_open_parenthesis}
use Rattle.rr_parse_expr.proofs.FrontMarks.{mark_differs, mark_stands}
use Rattle.rr_parse.proofs.modules.port_list.Goals as goal

pub overflow_add-from : goal.overflow_add-from
overflow_add-from c = let h = mark_inside c.args.input.tokens.now c.args.from mark_open_parenthesis (mark_stands _ c.is_mark.ensures c.if-is_mark.true) (omega arith) in omega arith

pub returns-then-is_mark : goal.returns-then-is_mark
returns-then-is_mark c = made_port_list 498 c.args.input.tokens.now c.args.from _ (mark_here c.args.input.tokens.now c.args.from mark_open_parenthesis (mark_stands _ c.is_mark.ensures c.if-is_mark.true) (omega arith)) c.bracketed_ports.result c.bracketed_ports.ensures

pub returns-else-is_mark : goal.returns-else-is_mark
returns-else-is_mark c = made_no_ports 498 c.args.input.tokens.now c.args.from c.into_bump_slice.result (c.into_bump_slice.ensures ∙ c.new.ensures.items) (mark_differs _ c.is_mark.ensures c.if-is_mark.false (lit< tt)) c.requires.inside
