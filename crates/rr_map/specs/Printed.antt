-- A file with a choice of the sites of its expansion printed into it.
use Rattle.std.specs.Prelude.{ℕ, List}
use Rattle.rr_syntax.specs.Tree.{SourceText}
use Rattle.rr_directive.specs.declared.origin.Origin.{Origin}
use Rattle.rr_directive.specs.Expand.{IsExpansion}
use Rattle.rr_grammar.specs.Trees.{IsTree}
use Rattle.rr_choice.specs.declared.pick.Pick.{Pick}
use Rattle.rr_choice.specs.Sites.{Site}
use Rattle.rr_respell.specs.Printing.{edits_of, printed}
use Rattle.rr_patch.specs.Edits.{byte_edits}
use Rattle.rr_edit.specs.Lifted.{lifted}
use Rattle.rr_kept.specs.Read.{SourceFile}

-- the edits that print the choice into the text that the file expands to, lifted into the file
abbrev pub printed_file : List ℕ → SourceFile → List Site → List Pick → List ℕ
printed_file bytes file sites choice = lifted file.origins (byte_edits file.tokens (edits_of sites choice file.source)) 0 bytes

-- the text with the choice printed into it
abbrev pub printed_text : SourceFile → List Site → List Pick → List ℕ
printed_text file sites choice = printed file.text file.tokens sites choice file.source

-- the bytes of a file expand to this text, whose tree this is
pub record ExpandsTo (bytes text : List ℕ) (source : SourceText) : Type 0 where
  pub origins : List Origin
  pub expansion : IsExpansion bytes text origins
  pub tree : IsTree text source
