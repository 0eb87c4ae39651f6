-- A file as it is read, with sites that can be changed in it.
use Rattle.std.specs.Prelude.{ℕ, ◌<◌, ◌^◌, List, length}
use Rattle.rr_syntax.specs.Items.{NumberedSource}
use Rattle.rr_syntax.specs.Tree.{SourceText}
use Rattle.rr_directive.specs.declared.origin.Origin.{Origin}
use Rattle.rr_directive.specs.Expand.{IsExpansion}
use Rattle.rr_lex.specs.Tokens.{Lexeme, words_of, AreTokens}
use Rattle.rr_grammar.specs.Trees.{Spells}
use Rattle.rr_choice.specs.Sites.{Site}
use Rattle.rr_respell.specs.Laws.{AreNamed}
use Rattle.rr_kept.specs.Kept.{AreKept}

-- the text that it expands to, with the origin of each byte, and the tokens and the tree of the text
pub record SourceFile : Type 0 where
  pub text : List ℕ
  pub origins : List Origin
  pub tokens : List Lexeme
  pub source : SourceText

-- these bytes are read as this, and the sites are kept ones of the text, with names that can be written
pub record IsRead (bytes : List ℕ) (file : SourceFile) (sites : List Site) : Type 0 where
  pub size : length bytes < 2 ^ 32
  pub small : length file.text < 2 ^ 32
  pub expansion : IsExpansion bytes file.text file.origins
  pub tokens : AreTokens file.text file.tokens
  pub spells : Spells (words_of file.tokens) file.source
  pub numbered : NumberedSource file.source
  pub listed : List Site
  pub kept : AreKept file.origins file.tokens file.source listed sites
  pub named : AreNamed sites
