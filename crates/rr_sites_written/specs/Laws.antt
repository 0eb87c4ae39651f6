-- The names of the sites of a text.
use Rattle.std.specs.Prelude.{ℕ, List}
use Rattle.rr_syntax.specs.Tree.{SourceText}
use Rattle.rr_lex.specs.Tokens.{Lexeme, AreTokens, words_of}
use Rattle.rr_expr.specs.Scopes.{Names}
use Rattle.rr_grammar.specs.Trees.{Spells}
use Rattle.rr_clock.specs.Places.{Place}
use Rattle.rr_sites_listed.specs.Listing.{sites_of}
use Rattle.rr_respell.specs.Laws.{AreNamed}

-- each can be written as a name, as the tokens of the text are
abbrev pub NamesAreWritten : Type 0
NamesAreWritten =
    (bytes : List ℕ) (ts : List Lexeme) (source : SourceText) → AreTokens bytes ts → Spells (words_of ts) source →
    (scopes : List Names) (owners : List ℕ) (places : List Place) → AreNamed (sites_of source scopes owners places)
