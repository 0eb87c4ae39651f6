-- What the text is in which a source is mended.
use Rattle.std.specs.Prelude.{◌≡◌, ℕ, List, []}
use Rattle.std.specs.List.{All}
use Rattle.rr_syntax.specs.Tree.{SourceText}
use Rattle.rr_syntax.specs.Items.{spell_source}
use Rattle.rr_lex.specs.Tokens.{Lexeme}
use Rattle.rr_grammar.specs.Trees.{IsTree}
use Rattle.rr_edit.specs.Edits.{IsPut}
use Rattle.rr_patch.specs.Edits.{byte_edits}
use Rattle.rr_respell.specs.Pieces.{printed_words, source_words}
use Rattle.rr_body_laws.specs.Bodies.{source_with}
use Rattle.rr_lint_laws.specs.Mended.{Marks, mended_body}
use Rattle.rr_lint_print.specs.Pieces.{lint_edits, linted, source_pieces}
use Rattle.rr_lint_print.specs.Stretches.{KeepsOthers}

-- the tokens of a source's pieces are those of the source, and those of the mended text are those of the mended source
pub record SpellsMended : Type 0 where
  pub source : (numbers : List ℕ) (marks : Marks) (s : SourceText) → source_words (source_pieces numbers marks s) ≡ spell_source s
  pub mended : (numbers : List ℕ) (marks : Marks) (s : SourceText) → printed_words (source_pieces numbers marks s) ≡ spell_source (source_with numbers (mended_body marks) s)

-- the tree of the mended text is the mended source
abbrev pub PrintsMended : Type 0
PrintsMended =
    (bytes : List ℕ) (s : SourceText) (tree : IsTree bytes s) (numbers : List ℕ) (marks : Marks) →
    IsTree (linted bytes tree.tokens numbers marks s) (source_with numbers (mended_body marks) s)

-- the bytes of the source but those of replaced `<=` stand in it
abbrev pub KeepsBytes : Type 0
KeepsBytes =
    (bytes : List ℕ) (s : SourceText) (tree : IsTree bytes s) (numbers : List ℕ) (marks : Marks) →
    KeepsOthers bytes tree.tokens (lint_edits numbers marks s) (linted bytes tree.tokens numbers marks s)

-- the text of each edit begins and ends with a blank, and no comment, use or directive stands in it
abbrev pub NewsArePut : Type 0
NewsArePut =
    (bytes : List ℕ) (s : SourceText) (tree : IsTree bytes s) (numbers : List ℕ) (marks : Marks) →
    All (λ e. IsPut e.text) (byte_edits tree.tokens (lint_edits numbers marks s))

-- a source whose mended tree is itself is printed without an edit
abbrev pub NothingPut : Type 0
NothingPut =
    (ts : List Lexeme) (numbers : List ℕ) (marks : Marks) (s : SourceText) → source_with numbers (mended_body marks) s ≡ s → byte_edits ts (lint_edits numbers marks s) ≡ []
