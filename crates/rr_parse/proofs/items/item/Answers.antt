use Rattle.std.proofs.Common.{lit<, sym, ◌∙◌}
use Rattle.rr_parse.proofs.MadeItems.{item_always, item_assigns, item_initial, item_instances, item_integers, item_nets, item_parameters, item_ports, item_variables}
use Rattle.rr_parse_stmt.proofs.FrontWords.{keyword_differs, keyword_stands}
use Rattle.rr_parse.proofs.items.item.Goals as goal

pub returns-then-begins_port : goal.returns-then-begins_port
returns-then-begins_port c = item_ports c.args.depth c.args.input.tokens.now c.args.from (sym c.begins_port.ensures ∙ c.if-begins_port.true) c.port_item.result c.port_item.ensures

pub returns-then-is_keyword : goal.returns-then-is_keyword
returns-then-is_keyword c = item_nets c.args.depth c.args.input.tokens.now c.args.from (sym c.begins_port.ensures ∙ c.if-begins_port.false) (keyword_stands _ c.is_keyword.ensures c.if-is_keyword.true) c.net_item.result c.net_item.ensures

pub returns-then-is_keyword-2 : goal.returns-then-is_keyword-2
returns-then-is_keyword-2 c = item_variables c.args.depth c.args.input.tokens.now c.args.from (sym c.begins_port.ensures ∙ c.if-begins_port.false) (keyword_differs _ c.is_keyword.ensures c.if-is_keyword.false (lit< tt)) (keyword_stands _ c.is_keyword-else-is_keyword.ensures c.if-is_keyword-2.true) c.variable_item.result c.variable_item.ensures

pub returns-then-is_keyword-3 : goal.returns-then-is_keyword-3
returns-then-is_keyword-3 c = item_integers c.args.depth c.args.input.tokens.now c.args.from (sym c.begins_port.ensures ∙ c.if-begins_port.false) (keyword_differs _ c.is_keyword.ensures c.if-is_keyword.false (lit< tt)) (keyword_differs _ c.is_keyword-else-is_keyword.ensures c.if-is_keyword-2.false (lit< tt)) (keyword_stands _ c.is_keyword-else-is_keyword-2.ensures c.if-is_keyword-3.true) c.integer_item.result c.integer_item.ensures

pub returns-then-begins_parameter : goal.returns-then-begins_parameter
returns-then-begins_parameter c = item_parameters c.args.depth c.args.input.tokens.now c.args.from (sym c.begins_port.ensures ∙ c.if-begins_port.false) (keyword_differs _ c.is_keyword.ensures c.if-is_keyword.false (lit< tt)) (keyword_differs _ c.is_keyword-else-is_keyword.ensures c.if-is_keyword-2.false (lit< tt)) (keyword_differs _ c.is_keyword-else-is_keyword-2.ensures c.if-is_keyword-3.false (lit< tt)) (sym c.begins_parameter.ensures ∙ c.if-begins_parameter.true) c.parameter_item.result c.parameter_item.ensures

pub returns-then-is_keyword-4 : goal.returns-then-is_keyword-4
returns-then-is_keyword-4 c = item_assigns c.args.depth c.args.input.tokens.now c.args.from (sym c.begins_port.ensures ∙ c.if-begins_port.false) (keyword_differs _ c.is_keyword.ensures c.if-is_keyword.false (lit< tt)) (keyword_differs _ c.is_keyword-else-is_keyword.ensures c.if-is_keyword-2.false (lit< tt)) (keyword_differs _ c.is_keyword-else-is_keyword-2.ensures c.if-is_keyword-3.false (lit< tt)) (sym c.begins_parameter.ensures ∙ c.if-begins_parameter.false) (keyword_stands _ c.is_keyword-else-begins_parameter.ensures c.if-is_keyword-4.true) c.assign_item.result c.assign_item.ensures

pub returns-then-is_keyword-5 : goal.returns-then-is_keyword-5
returns-then-is_keyword-5 c = item_always c.args.depth c.args.input.tokens.now c.args.from (sym c.begins_port.ensures ∙ c.if-begins_port.false) (keyword_differs _ c.is_keyword.ensures c.if-is_keyword.false (lit< tt)) (keyword_differs _ c.is_keyword-else-is_keyword.ensures c.if-is_keyword-2.false (lit< tt)) (keyword_differs _ c.is_keyword-else-is_keyword-2.ensures c.if-is_keyword-3.false (lit< tt)) (sym c.begins_parameter.ensures ∙ c.if-begins_parameter.false) (keyword_differs _ c.is_keyword-else-begins_parameter.ensures c.if-is_keyword-4.false (lit< tt)) (keyword_stands _ c.is_keyword-else-is_keyword-4.ensures c.if-is_keyword-5.true) c.always_item.result c.always_item.ensures

pub returns-then-is_keyword-6 : goal.returns-then-is_keyword-6
returns-then-is_keyword-6 c = item_initial c.args.depth c.args.input.tokens.now c.args.from (sym c.begins_port.ensures ∙ c.if-begins_port.false) (keyword_differs _ c.is_keyword.ensures c.if-is_keyword.false (lit< tt)) (keyword_differs _ c.is_keyword-else-is_keyword.ensures c.if-is_keyword-2.false (lit< tt)) (keyword_differs _ c.is_keyword-else-is_keyword-2.ensures c.if-is_keyword-3.false (lit< tt)) (sym c.begins_parameter.ensures ∙ c.if-begins_parameter.false) (keyword_differs _ c.is_keyword-else-begins_parameter.ensures c.if-is_keyword-4.false (lit< tt)) (keyword_differs _ c.is_keyword-else-is_keyword-4.ensures c.if-is_keyword-5.false (lit< tt)) (keyword_stands _ c.is_keyword-else-is_keyword-5.ensures c.if-is_keyword-6.true) c.initial_item.result c.initial_item.ensures

pub returns-else-is_keyword-6 : goal.returns-else-is_keyword-6
returns-else-is_keyword-6 c = item_instances c.args.depth c.args.input.tokens.now c.args.from (sym c.begins_port.ensures ∙ c.if-begins_port.false) (keyword_differs _ c.is_keyword.ensures c.if-is_keyword.false (lit< tt)) (keyword_differs _ c.is_keyword-else-is_keyword.ensures c.if-is_keyword-2.false (lit< tt)) (keyword_differs _ c.is_keyword-else-is_keyword-2.ensures c.if-is_keyword-3.false (lit< tt)) (sym c.begins_parameter.ensures ∙ c.if-begins_parameter.false) (keyword_differs _ c.is_keyword-else-begins_parameter.ensures c.if-is_keyword-4.false (lit< tt)) (keyword_differs _ c.is_keyword-else-is_keyword-4.ensures c.if-is_keyword-5.false (lit< tt)) (keyword_differs _ c.is_keyword-else-is_keyword-5.ensures c.if-is_keyword-6.false (lit< tt)) c.instance_item.result c.instance_item.ensures
