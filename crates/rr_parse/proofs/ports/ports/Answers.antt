use Rattle.std.proofs.Common.{rules}
use Rattle.rr_grammar.specs.Declarations.{port}
use Rattle.rr_parse.proofs.ListsRead.{list_as}
use Rattle.rr_parse.proofs.Positives.{moves_by, port_some}
use Rattle.rr_syntax.specs.View.{plain_port}
use Rattle.rr_parse.proofs.ports.ports.Goals as goal

pub list-requires-clause-moves : goal.list-requires-clause-moves
list-requires-clause-moves c = λ at p i h. moves_by (port c.args.depth) plain_port c.args.input.tokens.now port_some at p (search rules)

pub returns : goal.returns
returns c = list_as (port c.args.depth) plain_port c.args.input.tokens.now _ c.args.from c.list.result c.list.ensures (λ at r h. search rules)
