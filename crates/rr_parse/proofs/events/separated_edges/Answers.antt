use Rattle.std.proofs.Common.{rules}
use Rattle.rr_grammar.proofs.PartsExact.{edge_some}
use Rattle.rr_grammar.specs.Parts.{edge}
use Rattle.rr_parse.proofs.ListsRead.{parts_as}
use Rattle.rr_parse.proofs.Positives.{moves_by}
use Rattle.rr_syntax.specs.View.{plain_edge}
use Rattle.rr_parse.proofs.events.separated_edges.Goals as goal

pub alternating-requires-clause-moves : goal.alternating-requires-clause-moves
alternating-requires-clause-moves c = λ at p i h. moves_by edge plain_edge c.args.input.tokens.now edge_some at p (search rules)

pub returns : goal.returns
returns c = parts_as edge plain_edge c.args.input.tokens.now _ c.args.from c.alternating.result c.alternating.ensures (λ at r h. search rules)
