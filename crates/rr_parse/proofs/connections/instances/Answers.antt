use Rattle.std.proofs.Common.{rules}
use Rattle.rr_grammar.specs.Connections.{one_instance}
use Rattle.rr_parse.proofs.ListsRead.{list_as}
use Rattle.rr_parse.proofs.Positives.{instance_some, moves_by}
use Rattle.rr_syntax.specs.View.{plain_instance}
use Rattle.rr_parse.proofs.connections.instances.Goals as goal

pub list-requires-clause-moves : goal.list-requires-clause-moves
list-requires-clause-moves c = λ at p i h. moves_by (one_instance c.args.depth) plain_instance c.args.input.tokens.now instance_some at p (search rules)

pub returns : goal.returns
returns c = list_as (one_instance c.args.depth) plain_instance c.args.input.tokens.now _ c.args.from c.list.result c.list.ensures (λ at r h. search rules)
