use Rattle.std.proofs.Common.{rules}
use Rattle.rr_grammar.specs.Leaves.{expression}
use Rattle.rr_parse.proofs.ListsRead.{parts_as}
use Rattle.rr_parse.proofs.Positives.{moves_by}
use Rattle.rr_syntax.proofs.Nonempty.{spell-some}
use Rattle.rr_syntax.specs.View.{plain}
use Rattle.rr_parse.proofs.events.separated_levels.Goals as goal

pub alternating-requires-clause-moves : goal.alternating-requires-clause-moves
alternating-requires-clause-moves c = λ at p i h. moves_by (expression c.args.depth) plain c.args.input.tokens.now spell-some at p (search rules)

pub returns : goal.returns
returns c = parts_as (expression c.args.depth) plain c.args.input.tokens.now _ c.args.from c.alternating.result c.alternating.ensures (λ at r h. search rules)
