-- What holds of sites that are kept.
use Rattle.std.specs.Prelude.{◌≡◌, true, List}
use Rattle.std.specs.List.{All}
use Rattle.rr_syntax.specs.Items.{NumberedSource}
use Rattle.rr_syntax.specs.Tree.{SourceText}
use Rattle.rr_directive.specs.declared.origin.Origin.{Origin}
use Rattle.rr_lex.specs.Tokens.{Lexeme, words_of}
use Rattle.rr_grammar.specs.Trees.{Spells}
use Rattle.rr_choice.specs.declared.pick.Pick.{Pick}
use Rattle.rr_choice.specs.Sites.{Site, FitWidths}
use Rattle.rr_respell.specs.Laws.{AreNamed}
use Rattle.rr_respell.specs.Printing.{edits_of}
use Rattle.rr_edit.specs.Lifted.{lifts}
use Rattle.rr_patch.specs.Edits.{byte_edits}
use Rattle.rr_kept.specs.Kept.{AreKept}

-- all edits of each choice of kept sites lift
abbrev pub KeptLift : Type 0
KeptLift = (origins : List Origin) (ts : List Lexeme) (source : SourceText) (listed ss : List Site) (ps : List Pick) →
    Spells (words_of ts) source → NumberedSource source → AreKept origins ts source listed ss →
    All (λ e. lifts origins e ≡ true) (byte_edits ts (edits_of ss ps source))

-- kept sites have the names and the widths of all
abbrev pub KeptAreNamed : Type 0
KeptAreNamed = (origins : List Origin) (ts : List Lexeme) (source : SourceText) (listed ss : List Site) → AreKept origins ts source listed ss → AreNamed listed → AreNamed ss

abbrev pub KeptFit : Type 0
KeptFit = (origins : List Origin) (ts : List Lexeme) (source : SourceText) (listed ss : List Site) → AreKept origins ts source listed ss → FitWidths listed → FitWidths ss
