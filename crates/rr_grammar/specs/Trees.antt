-- The tree of a text.
use Rattle.std.specs.Prelude.{ℕ, ◌≡◌, ◌≤◌, List}
use Rattle.rr_syntax.specs.Words.{Word}
use Rattle.rr_syntax.specs.Tree.{SourceText}
use Rattle.rr_syntax.specs.Items.{spell_source, depth_source, WellFormedSource, NumberedSource}
use Rattle.rr_lex.specs.Tokens.{Lexeme, AreTokens, words_of}
use Rattle.rr_parse_expr.specs.Exact.{max_depth}

-- a well-formed source text (IEEE 1364-2005 annex A.1.2) that these words spell, of any depth
pub record Spells (ws : List Word) (t : SourceText) : Type 0 where
  pub well : WellFormedSource t
  pub spelled : spell_source t ≡ ws

-- the same, of depth at most 500
pub record SpellsShallow (ws : List Word) (t : SourceText) : Type 0 where
  pub spells : Spells ws t
  pub shallow : depth_source t ≤ max_depth

abbrev pub NoneSpells : List Word → Type 0
NoneSpells ws = (t : SourceText) → SpellsShallow ws t → ⊥

-- the same, where each leaf has its token's number
pub record IsNumberedTree (ws : List Word) (t : SourceText) : Type 0 where
  pub tree : SpellsShallow ws t
  pub numbered : NumberedSource t

-- a source text that the tokens of the bytes spell, of any depth
pub record IsTree (bytes : List ℕ) (t : SourceText) : Type 0 where
  pub tokens : List Lexeme
  pub are : AreTokens bytes tokens
  pub spells : Spells (words_of tokens) t

-- the same, of depth at most 500
pub record IsShallowTree (bytes : List ℕ) (t : SourceText) : Type 0 where
  pub tree : IsTree bytes t
  pub shallow : depth_source t ≤ max_depth
