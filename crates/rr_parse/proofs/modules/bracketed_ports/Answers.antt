use Rattle.std.proofs.Common.{lit<, arith, refl, sym, ◌∙◌}
use Rattle.rr_grammar.specs.Connections.{front_close}
use Rattle.rr_grammar.specs.Formats.{choose}
use Rattle.rr_grammar.specs.ItemForms.{front_ports}
use Rattle.rr_grammar.specs.ModuleForms.{empty_ports, group_ports, name_ports}
use Rattle.rr_parse.proofs.Founds.{answers_left, answers_right, finds_left, mark_here, same}
use Rattle.rr_parse.proofs.MadeModules.{made_empty_ports}
use Rattle.rr_parse.specs.Trees.{plain_port_list}
use Rattle.rr_parse_expr.proofs.Answered.{mark_inside, not_equal}
use Rattle.rr_syntax.specs.Words.{mark_close_parenthesis}
use Rattle.rr_parse_expr.proofs.FrontMarks.{mark_differs, mark_stands}
use Rattle.rr_parse.proofs.modules.bracketed_ports.Goals as goal

pub overflow_add-result : goal.overflow_add-result
overflow_add-result c = let h = mark_inside c.args.input.tokens.now c.args.from mark_close_parenthesis (mark_stands _ c.is_mark.ensures c.if-is_mark.true) (omega arith) in omega arith

pub returns-then-is_mark : goal.returns-then-is_mark
returns-then-is_mark c = finds_left front_close (choose front_ports (group_ports 498) name_ports) (same _ mark_close_parenthesis (mark_stands _ c.is_mark.ensures c.if-is_mark.true)) (made_empty_ports c.into_bump_slice.result c.into_bump_slice-then-is_mark.result (c.into_bump_slice.ensures ∙ c.new.ensures.items) (c.into_bump_slice-then-is_mark.ensures ∙ c.new-then-is_mark.ensures.items) (mark_here c.args.input.tokens.now c.args.from mark_close_parenthesis (mark_stands _ c.is_mark.ensures c.if-is_mark.true) (omega arith)))

pub returns-then-begins_port : goal.returns-then-begins_port
returns-then-begins_port c = answers_right front_close empty_ports (choose front_ports (group_ports 498) name_ports) plain_port_list c.args.input.tokens.now c.args.from (not_equal _ mark_close_parenthesis (mark_differs _ c.is_mark.ensures c.if-is_mark.false (lit< tt))) (λ b. refl) (λ b. refl) (λ b at n. n) c.declared_ports.result (answers_left front_ports (group_ports 498) name_ports plain_port_list c.args.input.tokens.now c.args.from (sym c.begins_port.ensures ∙ c.if-begins_port.true) c.declared_ports.result c.declared_ports.ensures)

pub returns-else-begins_port : goal.returns-else-begins_port
returns-else-begins_port c = answers_right front_close empty_ports (choose front_ports (group_ports 498) name_ports) plain_port_list c.args.input.tokens.now c.args.from (not_equal _ mark_close_parenthesis (mark_differs _ c.is_mark.ensures c.if-is_mark.false (lit< tt))) (λ b. refl) (λ b. refl) (λ b at n. n) c.named_ports.result (answers_right front_ports (group_ports 498) name_ports plain_port_list c.args.input.tokens.now c.args.from (sym c.begins_port.ensures ∙ c.if-begins_port.false) (λ b. refl) (λ b. refl) (λ b at n. n) c.named_ports.result c.named_ports.ensures)
