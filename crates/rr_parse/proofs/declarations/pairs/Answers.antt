use Rattle.std.proofs.Common.{rules}
use Rattle.rr_grammar.specs.Declarations.{pair}
use Rattle.rr_parse.proofs.ListsRead.{list_as}
use Rattle.rr_parse.proofs.Positives.{moves_by, pair_some}
use Rattle.rr_syntax.specs.View.{plain_pair}
use Rattle.rr_parse.proofs.declarations.pairs.Goals as goal

pub list-requires-clause-moves : goal.list-requires-clause-moves
list-requires-clause-moves c = λ at p i h. moves_by (pair c.args.depth) plain_pair c.args.input.tokens.now pair_some at p (search rules)

pub returns : goal.returns
returns c = list_as (pair c.args.depth) plain_pair c.args.input.tokens.now _ c.args.from c.list.result c.list.ensures (λ at r h. search rules)
