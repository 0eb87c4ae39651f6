use Rattle.std.proofs.Common.{rules}
use Rattle.rr_grammar.specs.Declarations.{setting}
use Rattle.rr_parse.proofs.ListsRead.{list_as}
use Rattle.rr_parse.proofs.Positives.{assignment_some, moves_by}
use Rattle.rr_syntax.specs.View.{plain_assignment}
use Rattle.rr_parse.proofs.declarations.settings.Goals as goal

pub list-requires-clause-moves : goal.list-requires-clause-moves
list-requires-clause-moves c = λ at p i h. moves_by (setting c.args.depth) plain_assignment c.args.input.tokens.now assignment_some at p (search rules)

pub returns : goal.returns
returns c = list_as (setting c.args.depth) plain_assignment c.args.input.tokens.now _ c.args.from c.list.result c.list.ensures (λ at r h. search rules)
