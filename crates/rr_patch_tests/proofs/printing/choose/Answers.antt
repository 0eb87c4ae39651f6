use Rattle.std.proofs.Common.{List, sym, subst}
use Rattle.rr_syntax.specs.Words.{Word}
use Rattle.rr_syntax.specs.View.{plain_source}
use Rattle.rr_grammar.specs.Trees.{Spells}
use Rattle.rr_patch_tests.proofs.printing.choose.Goals as goal

pub print-requires-clause-tree : goal.print-requires-clause-tree
print-requires-clause-tree c = subst (λ (ws : List Word). Spells ws (plain_source c.in-Ok-parse.source.now)) (sym (c.words_of_tokens.ensures c.in-Ok.tokens.now)) c.in-Ok-parse.ensures.exact.spelled.tree.spells

pub print-requires-clause-numbered : goal.print-requires-clause-numbered
print-requires-clause-numbered c = c.in-Ok-parse.ensures.exact.spelled.numbered

pub edits-requires-clause-tree : goal.edits-requires-clause-tree
edits-requires-clause-tree c = subst (λ (ws : List Word). Spells ws (plain_source c.in-Ok-parse.source.now)) (sym (c.words_of_tokens.ensures c.in-Ok.tokens.now)) c.in-Ok-parse.ensures.exact.spelled.tree.spells

pub edits-requires-clause-numbered : goal.edits-requires-clause-numbered
edits-requires-clause-numbered c = c.in-Ok-parse.ensures.exact.spelled.numbered
