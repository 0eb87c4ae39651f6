-- What is printed, from the changes of the whole source.
use Rattle.std.proofs.Common.{◌≡◌, ℕ, ◌<◌, ◌^◌, List, [], ◌++◌, length, map, sym, ◌∙◌, ap, subst, arith}
use Rattle.std.specs.List.{All}
use Rattle.std.proofs.lemmas.List.{length-map}
use Rattle.rr_syntax.specs.declared.token.Token.{Token}
use Rattle.rr_syntax.specs.declared.tree.Source.{Source}
use Rattle.rr_syntax.specs.Tree.{SourceText}
use Rattle.rr_syntax.specs.Words.{Word}
use Rattle.rr_syntax.specs.Items.{spell_all, spell_module, WellFormedModule, WellFormedSource, NumberedAll, NumberedModule, NumberedSource}
use Rattle.rr_syntax.specs.View.{plain_module, plain_source}
use Rattle.rr_syntax.proofs.ItemLengths.{source_len}
use Rattle.rr_lex.specs.Tokens.{Lexeme, lexeme, lexemes, AreTokens, words_of}
use Rattle.rr_lex.proofs.Steps.{lex_few}
use Rattle.rr_grammar.specs.Trees.{IsTree, Spells}
use Rattle.rr_choice.specs.declared.pick.Pick.{Pick}
use Rattle.rr_choice.specs.Sites as sites
use Rattle.rr_choice.specs.Sites.{SiteKind, Site, HasWidth, HasFitWidth, IsSite, IsSiteList, FitWidths}
use Rattle.rr_instance.specs.Instances.{instance_source}
use Rattle.rr_respell.specs.Laws.{AreNamed}
use Rattle.rr_respell.specs.Printing.{edits_of, printed, all_pieces, module_pieces, source_pieces}
use Rattle.rr_respell.specs.Stretches.{StandsWhole}
use Rattle.rr_respell.proofs.KeptBytes.{keeps_bytes}
use Rattle.rr_respell.proofs.PrintedTree.{prints_instance}
use Rattle.rr_patch.specs.declared.change.Change.{Change as Made}
use Rattle.rr_patch.specs.Changes.{changes, made_edits, plain_changes, AreFit}
use Rattle.rr_patch.specs.Edits.{byte_edits}
use Rattle.rr_edit.specs.Edits.{Edit, edited, InOrder, IsPlaced}
use Rattle.rr_patch.proofs.Stood.{edits_patch, edits_order, edits_placed}
use Rattle.rr_patch.specs.Walks.{Adds, ModuleAt}
use Rattle.rr_patch.proofs.ListWalks.{all_both}
use Rattle.rr_patch.proofs.Joined.{changes_edit, changes_are_fit}

fit_width : (k : SiteKind) → HasWidth k → HasFitWidth k
fit_width (sites.Literal width signed) h = tt
fit_width (sites.Guard owner extent names) h = tt
fit_width (sites.Overwrite owner target width now names) h = h

-- the sites of a list have widths
pub fit_widths : (ss : List Site) → IsSiteList ss → FitWidths ss
fit_widths ss g k d l = fit_width _ (g.each k d l).width

-- a source has no more words than its text has bytes
pub source_room : (bytes : List ℕ) (tokens : List Token) (s : Source) → length bytes < 2 ^ 32 → AreTokens bytes (lexemes tokens) → Spells (words_of (lexemes tokens)) (plain_source s) →
    length (spell_all spell_module (map plain_module s.modules.now)) < 2 ^ 61
source_room bytes tokens s few are spells =
    let a = source_len s in
    let b = ap length spells.spelled in
    let c = length-map (lexemes tokens) (λ t. t.word) in
    let d = length-map tokens lexeme in
    let e = lex_few bytes tokens are in
    omega (arith, few, a, b, c, d, e)

-- the changes of its modules are those of the source, whose first token is number 0
pub of_source : (ss : List Site) (ps : List Pick) (s : Source) (ws : List Word) (o o' : List Made) → Spells ws (plain_source s) → NumberedSource (plain_source s) → o ≡ [] →
    Adds (plain_changes o) (plain_changes o') (NumberedAll spell_module ModuleAt (map plain_module s.modules.now)) (all_pieces (module_pieces ss ps) (map plain_module s.modules.now)) →
    plain_changes o' ≡ changes 0 (source_pieces ss ps (plain_source s))
unfolding source_pieces plain_source NumberedSource WellFormedSource
of_source ss ps s ws o o' spells n e h =
    h 0 (all_both spell_module WellFormedModule NumberedModule (map plain_module s.modules.now) 0 spells.well n)
    ∙ ap (λ l. plain_changes l ++ changes 0 (all_pieces (module_pieces ss ps) (map plain_module s.modules.now))) e

module _ (bytes : List ℕ) (ts : List Lexeme) (s : SourceText) (ss : List Site) (ps : List Pick) (are : AreTokens bytes ts) (spells : Spells (words_of ts) s) where
  its_tree : IsTree bytes s
  its_tree = record { tokens = ts; are = are; spells = spells }

  pub made_fit : (cs : List Made) → IsSiteList ss → plain_changes cs ≡ changes 0 (source_pieces ss ps s) → AreFit cs
  made_fit cs g e = changes_are_fit bytes s its_tree ss ps cs (fit_widths ss g) e

  pub made_exact : (out : List Edit) (cs : List Made) → plain_changes cs ≡ changes 0 (source_pieces ss ps s) → out ≡ made_edits 0 ts (plain_changes cs) → out ≡ byte_edits ts (edits_of ss ps s)
  unfolding its_tree
  made_exact out cs e h = h ∙ ap (made_edits 0 ts) e ∙ changes_edit bytes s its_tree ss ps

  module _ (out : List Edit) (e : out ≡ byte_edits ts (edits_of ss ps s)) where
    pub exact_printed : edited 0 bytes out ≡ printed bytes ts ss ps s
    exact_printed = ap (edited 0 bytes) e ∙ edits_patch bytes ts (edits_of ss ps s) are

    pub exact_order : InOrder 0 (length bytes) out
    exact_order = subst (InOrder 0 (length bytes)) (sym e) (edits_order bytes ts (edits_of ss ps s) are)

    pub exact_placed : All (IsPlaced bytes) out
    exact_placed = subst (All (IsPlaced bytes)) (sym e) (edits_placed bytes ts (edits_of ss ps s) are)

  pub made_tree : (out : List ℕ) → out ≡ printed bytes ts ss ps s → IsSiteList ss → AreNamed ss → IsTree out (instance_source ss ps s)
  unfolding its_tree
  made_tree out e g n = subst (λ (b : List ℕ). IsTree b (instance_source ss ps s)) (sym e) (prints_instance bytes s its_tree ss ps (fit_widths ss g) n)

  pub made_whole : (out : List ℕ) → out ≡ printed bytes ts ss ps s → StandsWhole bytes ts (edits_of ss ps s) out
  unfolding its_tree
  made_whole out e = subst (StandsWhole bytes ts (edits_of ss ps s)) (sym e) (keeps_bytes bytes s its_tree ss ps)
