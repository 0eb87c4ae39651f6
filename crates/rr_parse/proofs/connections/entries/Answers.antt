use Rattle.std.proofs.Common.{rules}
use Rattle.rr_grammar.specs.Leaves.{expression}
use Rattle.rr_parse.proofs.ListsRead.{list_as}
use Rattle.rr_parse.proofs.Positives.{moves_by}
use Rattle.rr_syntax.proofs.Nonempty.{spell-some}
use Rattle.rr_syntax.specs.View.{plain}
use Rattle.rr_parse.proofs.connections.entries.Goals as goal

pub list-requires-clause-moves : goal.list-requires-clause-moves
list-requires-clause-moves c = λ at p i h. moves_by (expression c.args.depth) plain c.args.input.tokens.now spell-some at p (search rules)

pub returns : goal.returns
returns c = list_as (expression c.args.depth) plain c.args.input.tokens.now _ c.args.from c.list.result c.list.ensures (λ at r h. search rules)
