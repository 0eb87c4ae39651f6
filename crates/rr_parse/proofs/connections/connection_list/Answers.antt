use Rattle.std.proofs.Common.{rules}
use Rattle.rr_grammar.specs.Connections.{connection}
use Rattle.rr_parse.proofs.ListsRead.{list_as}
use Rattle.rr_parse.proofs.Positives.{connection_some, moves_by}
use Rattle.rr_syntax.specs.View.{plain_connection}
use Rattle.rr_parse.proofs.connections.connection_list.Goals as goal

pub list-requires-clause-moves : goal.list-requires-clause-moves
list-requires-clause-moves c = λ at p i h. moves_by (connection c.args.depth) plain_connection c.args.input.tokens.now connection_some at p (search rules)

pub returns : goal.returns
returns c = list_as (connection c.args.depth) plain_connection c.args.input.tokens.now _ c.args.from c.list.result c.list.ensures (λ at r h. search rules)
