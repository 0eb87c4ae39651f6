use Rattle.std.proofs.Common.{rules}
use Rattle.rr_grammar.specs.Declarations.{single}
use Rattle.rr_parse.proofs.ListsRead.{list_as}
use Rattle.rr_parse.proofs.Positives.{declarator_some, moves_by}
use Rattle.rr_syntax.specs.View.{plain_declarator}
use Rattle.rr_parse.proofs.declarations.singles.Goals as goal

pub list-requires-clause-moves : goal.list-requires-clause-moves
list-requires-clause-moves c = λ at p i h. moves_by (single c.args.depth) plain_declarator c.args.input.tokens.now declarator_some at p (search rules)

pub returns : goal.returns
returns c = list_as (single c.args.depth) plain_declarator c.args.input.tokens.now _ c.args.from c.list.result c.list.ensures (λ at r h. search rules)
