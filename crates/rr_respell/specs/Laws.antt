-- What a printed source is.
use Rattle.std.specs.Prelude.{◌≡◌, ℕ, List}
use Rattle.std.specs.List.{All}
use Rattle.rr_syntax.specs.Tree.{SourceText}
use Rattle.rr_syntax.specs.Items.{spell_source}
use Rattle.rr_lex.specs.Patch.{IsNameText}
use Rattle.rr_grammar.specs.Trees.{IsTree}
use Rattle.rr_choice.specs.declared.pick.Pick.{Pick}
use Rattle.rr_choice.specs.Sites.{SiteKind, Site, Literal, Guard, Overwrite, FitWidths}
use Rattle.rr_instance.specs.Instances.{instance_source}
use Rattle.rr_respell.specs.Pieces.{source_words, printed_words}
use Rattle.rr_respell.specs.Printing.{source_pieces, edits_of, printed}
use Rattle.rr_respell.specs.Stretches.{StandsWhole}

-- each name of a site can be written as a name, as each name of a source can (IEEE 1364-2005 section 3.7)
abbrev pub IsNamed : SiteKind → Type 0
IsNamed (Literal width signed) = Unit {0}
IsNamed (Guard owner extent names) = All IsNameText names
IsNamed (Overwrite owner target width now names) = All IsNameText names × IsNameText target

abbrev pub AreNamed : List Site → Type 0
AreNamed ss = All (λ s. IsNamed s.kind) ss

-- the tokens of a source's pieces are those of the source, and those of the printed text are those of the instance
pub record SpellsBoth : Type 0 where
  pub source : (ss : List Site) (ps : List Pick) (s : SourceText) → source_words (source_pieces ss ps s) ≡ spell_source s
  pub instance : (ss : List Site) (ps : List Pick) (s : SourceText) → printed_words (source_pieces ss ps s) ≡ spell_source (instance_source ss ps s)

-- the tree of the printed bytes is the instance of the source's
abbrev pub PrintsInstance : Type 0
PrintsInstance =
    (bytes : List ℕ) (s : SourceText) (tree : IsTree bytes s) (ss : List Site) (ps : List Pick) → FitWidths ss → AreNamed ss →
    IsTree (printed bytes tree.tokens ss ps s) (instance_source ss ps s)

-- the bytes of the source but those of replaced literals stand in the printed bytes
abbrev pub KeepsBytes : Type 0
KeepsBytes =
    (bytes : List ℕ) (s : SourceText) (tree : IsTree bytes s) (ss : List Site) (ps : List Pick) → StandsWhole bytes tree.tokens (edits_of ss ps s) (printed bytes tree.tokens ss ps s)
