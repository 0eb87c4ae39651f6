-- The edits that mend a text.
use Rattle.std.specs.Prelude.{◌≡◌, List}
use Rattle.rr_syntax.specs.Tree.{SourceText}
use Rattle.rr_flat.specs.Plain.{Flat}
use Rattle.rr_lex.specs.Tokens.{Lexeme}
use Rattle.rr_edit.specs.Edits.{Edit}
use Rattle.rr_patch.specs.Edits.{byte_edits}
use Rattle.rr_lint_laws.specs.Mended.{MarkLatched, Marks, NoWordLatches}
use Rattle.rr_lint_print.specs.Pieces.{lint_edits}

-- of the text with these tokens, whose source this is: what mends its blocks, as edits of the bytes; no block would keep a memory
pub record AreLintEdits (tokens : List Lexeme) (source : SourceText) (flat : Flat) (es : List Edit) : Type 0 where
  pub marks : Marks
  pub latched : MarkLatched flat marks
  pub words : NoWordLatches flat
  pub are : es ≡ byte_edits tokens (lint_edits flat.reached marks source)
