-- The texts of the edits of a choice.
use Rattle.std.specs.Prelude.{List}
use Rattle.std.specs.List.{All}
use Rattle.rr_syntax.specs.Tree.{SourceText}
use Rattle.rr_lex.specs.Tokens.{Lexeme}
use Rattle.rr_choice.specs.declared.pick.Pick.{Pick}
use Rattle.rr_choice.specs.Sites.{Site, FitWidths}
use Rattle.rr_respell.specs.Laws.{AreNamed}
use Rattle.rr_respell.specs.Printing.{edits_of}
use Rattle.rr_edit.specs.Edits.{IsPut}
use Rattle.rr_patch.specs.Edits.{byte_edits}

-- each begins and ends with a blank, and no comment, use or directive stands in it
abbrev pub NewsArePut : Type 0
NewsArePut = (ts : List Lexeme) (source : SourceText) (ss : List Site) (ps : List Pick) → FitWidths ss → AreNamed ss → All (λ e. IsPut e.text) (byte_edits ts (edits_of ss ps source))
