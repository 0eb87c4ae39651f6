use Rattle.std.proofs.Common.{rules}
use Rattle.rr_grammar.specs.Leaves.{identifier}
use Rattle.rr_parse.proofs.ListsRead.{list_as}
use Rattle.rr_parse.proofs.Positives.{identifier_some, moves_by}
use Rattle.rr_syntax.specs.View.{plain_identifier}
use Rattle.rr_parse.proofs.declarations.names.Goals as goal

pub list-requires-clause-moves : goal.list-requires-clause-moves
list-requires-clause-moves c = λ at p i h. moves_by identifier plain_identifier c.args.input.tokens.now identifier_some at p (search rules)

pub returns : goal.returns
returns c = list_as identifier plain_identifier c.args.input.tokens.now _ c.args.from c.list.result c.list.ensures (λ at r h. search rules)
