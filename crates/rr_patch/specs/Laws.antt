-- That changes make the edits of a source, and that these print it.
use Rattle.std.specs.Prelude.{◌≡◌, ℕ, List}
use Rattle.rr_syntax.specs.Tree.{SourceText}
use Rattle.rr_grammar.specs.Trees.{IsTree}
use Rattle.rr_choice.specs.declared.pick.Pick.{Pick}
use Rattle.rr_choice.specs.Sites.{Site, FitWidths}
use Rattle.rr_edit.specs.Edits.{edited}
use Rattle.rr_respell.specs.Printing.{source_pieces, edits_of, printed}
use Rattle.rr_patch.specs.declared.change.Change.{Change}
use Rattle.rr_patch.specs.Changes.{changes, made_edits, plain_changes, AreFit}
use Rattle.rr_patch.specs.Edits.{byte_edits}

-- the edits that the changes of the source's pieces make are those of the choice
abbrev pub ChangesEdit : Type 0
ChangesEdit =
    (bytes : List ℕ) (s : SourceText) (tree : IsTree bytes s) (ss : List Site) (ps : List Pick) →
    made_edits 0 tree.tokens (changes 0 (source_pieces ss ps s)) ≡ byte_edits tree.tokens (edits_of ss ps s)

-- the text with these edits made is the printed one
abbrev pub ChangesPrint : Type 0
ChangesPrint =
    (bytes : List ℕ) (s : SourceText) (tree : IsTree bytes s) (ss : List Site) (ps : List Pick) →
    edited 0 bytes (made_edits 0 tree.tokens (changes 0 (source_pieces ss ps s))) ≡ printed bytes tree.tokens ss ps s

-- each literal in the changes has 1 to 128 bits, and a value that has no more
abbrev pub ChangesAreFit : Type 0
ChangesAreFit =
    (bytes : List ℕ) (s : SourceText) (tree : IsTree bytes s) (ss : List Site) (ps : List Pick) (cs : List Change) → FitWidths ss →
    plain_changes cs ≡ changes 0 (source_pieces ss ps s) → AreFit cs
