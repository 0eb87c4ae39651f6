use Rattle.std.proofs.Common.{List, sym, subst}
use Rattle.rr_syntax.specs.Words.{Word}
use Rattle.rr_syntax.specs.View.{plain_source}
use Rattle.rr_grammar.specs.Trees.{Spells}
use Rattle.rr_kept_tests.proofs.keeping.keeps.Goals as goal

pub kept-requires-clause-tree : goal.kept-requires-clause-tree
kept-requires-clause-tree c = subst (λ (ws : List Word). Spells ws (plain_source c.in-Ok-parse.source.now)) (sym (c.words_of_tokens.ensures c.in-Ok-lex.tokens.now)) c.in-Ok-parse.ensures.exact.spelled.tree.spells

pub kept-requires-clause-numbered : goal.kept-requires-clause-numbered
kept-requires-clause-numbered c = c.in-Ok-parse.ensures.exact.spelled.numbered
