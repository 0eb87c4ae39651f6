use Rattle.std.proofs.Common.{rules}
use Rattle.rr_parse_stmt.proofs.Labels.{entry_moves, labels_as}
use Rattle.rr_parse_stmt.proofs.expressions.label_list.Goals as goal

pub list-requires-clause-moves : goal.list-requires-clause-moves
list-requires-clause-moves c = λ at p i h. entry_moves c.args.input.tokens.now c.args.room at p (search rules)

pub returns : goal.returns
returns c = labels_as c.args.input.tokens.now c.args.room _ c.args.from c.list.result c.list.ensures (λ at r h. search rules)
