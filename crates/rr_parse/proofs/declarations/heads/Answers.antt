use Rattle.std.proofs.Common.{rules}
use Rattle.rr_grammar.specs.Declarations.{head_parameter}
use Rattle.rr_parse.proofs.ListsRead.{list_as}
use Rattle.rr_parse.proofs.Positives.{moves_by, parameter_some}
use Rattle.rr_syntax.specs.View.{plain_parameter}
use Rattle.rr_parse.proofs.declarations.heads.Goals as goal

pub list-requires-clause-moves : goal.list-requires-clause-moves
list-requires-clause-moves c = λ at p i h. moves_by (head_parameter c.args.depth) plain_parameter c.args.input.tokens.now parameter_some at p (search rules)

pub returns : goal.returns
returns c = list_as (head_parameter c.args.depth) plain_parameter c.args.input.tokens.now _ c.args.from c.list.result c.list.ensures (λ at r h. search rules)
