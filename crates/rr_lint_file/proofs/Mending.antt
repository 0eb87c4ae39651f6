-- What holds of a file that was mended.
use Rattle.std.proofs.Common.{◌≡◌, ◌∙◌, ℕ, true, List, [], Option, Ok, refl, sym, ap, subst, All}
use Rattle.rr_syntax.specs.Tree.{SourceText}
use Rattle.rr_directive.specs.Expand.{IsExpansion}
use Rattle.rr_lex.specs.Patch.{Edit as TokenEdit}
use Rattle.rr_edit.specs.Edits.{AreEdits, Edit, edited}
use Rattle.rr_edit.specs.Lifted.{lifted, lifts}
use Rattle.rr_flat.specs.Signals.{Text}
use Rattle.rr_flatten.specs.Walk.{flat_of}
use Rattle.rr_flatten.proofs.Limits.{design_stays}
use Rattle.rr_grammar.specs.Trees.{IsTree}
use Rattle.rr_lift.proofs.Lifts.{lift_expands, nothing_lifts}
use Rattle.rr_map.specs.Printed.{ExpandsTo}
use Rattle.rr_patch.specs.Edits.{byte_edits}
use Rattle.rr_patch.proofs.Stood.{edits_order, edits_patch, edits_placed}
use Rattle.rr_body_laws.specs.Bodies.{source_with}
use Rattle.rr_lint_laws.specs.Clean.{IsClean}
use Rattle.rr_lint_laws.specs.Mended.{IsLint, mended_body}
use Rattle.rr_lint_laws.proofs.Cleans.{lint_cleans}
use Rattle.rr_lint_laws.proofs.Formed.{lint_stays_formed}
use Rattle.rr_lint_laws.proofs.Stays.{clean_stays}
use Rattle.rr_lint_print.specs.Pieces.{lint_edits, linted}
use Rattle.rr_lint_print.proofs.MendedTree.{prints_by}
use Rattle.rr_lint_print.proofs.NewsPut.{news_are_put}
use Rattle.rr_lint_print.proofs.Nothing.{nothing_put}
use Rattle.rr_lint_file.specs.Clean.{IsCleaned, MendedAreClean}
use Rattle.rr_lint_file.specs.Files.{IsMendedFile}

module _ (file : List ℕ) (top : Option Text) (out : List ℕ) (a : IsMendedFile file top out) where
  its_tree : IsTree a.read.text a.read.source
  its_tree = record { tokens = a.read.tokens; are = a.has.design.text.lexed; spells = a.has.design.text.spells.tree.spells }

  mended : SourceText
  mended = source_with a.has.flat.reached (mended_body a.has.edits.marks) a.read.source

  lint : IsLint a.read.source a.has.flat mended
  unfolding mended
  lint = record { marks = a.has.edits.marks; latched = a.has.edits.latched; words = a.has.edits.words; is = refl }

  -- its design, whatever its loops unfold to
  its_design : flat_of a.read.source top ≡ Ok a.has.flat
  its_design = design_stays 1048576 a.read.source top a.has.flat a.has.design.flat

  token_edits : List TokenEdit
  token_edits = lint_edits a.has.flat.reached a.has.edits.marks a.read.source

  made_are : a.made ≡ byte_edits a.read.tokens token_edits
  unfolding token_edits
  made_are = a.has.edits.are

  are_edits : AreEdits a.read.text (byte_edits a.read.tokens token_edits)
  unfolding token_edits its_tree
  are_edits = record {
    order = edits_order a.read.text a.read.tokens token_edits a.has.design.text.lexed;
    placed = edits_placed a.read.text a.read.tokens token_edits a.has.design.text.lexed;
    put = news_are_put a.read.text a.read.source its_tree a.has.flat.reached a.has.edits.marks;
  }

  its_text : List ℕ
  its_text = linted a.read.text a.read.tokens a.has.flat.reached a.has.edits.marks a.read.source

  expands : ExpandsTo out its_text mended
  unfolding its_tree token_edits its_text mended
  expands =
      let es = byte_edits a.read.tokens token_edits in
      let lift : All (λ e. lifts a.read.origins e ≡ true) es = subst (All (λ (e : Edit). lifts a.read.origins e ≡ true)) made_are a.made_in.0 in
      let is : (more : _) × IsExpansion (lifted a.read.origins es 0 file) (edited 0 a.read.text es) more = lift_expands file a.read.text a.read.origins es a.has.expansion.expansion are_edits lift in
      let same : lifted a.read.origins es 0 file ≡ out = ap (λ (l : List Edit). lifted a.read.origins l 0 file) (sym made_are) ∙ sym a.made_in.1 in
      let text : edited 0 a.read.text es ≡ its_text = edits_patch a.read.text a.read.tokens token_edits a.has.design.text.lexed in
      record {
        origins = is.0;
        expansion = subst (λ (o : List ℕ). IsExpansion o its_text is.0) same (subst (λ (t : List ℕ). IsExpansion (lifted a.read.origins es 0 file) t is.0) text is.1);
        tree = prints_by lint_stays_formed a.read.text a.read.source its_tree a.has.flat.reached a.has.edits.marks;
      }

  stays : IsClean a.read.source top → out ≡ file
  unfolding mended token_edits
  stays c =
      let same : mended ≡ a.read.source = clean_stays a.read.source mended top a.has.flat a.has.design.text.spells.tree.spells.well its_design c lint in
      let none : a.made ≡ [] = made_are ∙ nothing_put a.read.tokens a.has.flat.reached a.has.edits.marks a.read.source same in
      a.made_in.1 ∙ (ap (λ (es : List Edit). lifted a.read.origins es 0 file) none ∙ nothing_lifts file a.read.origins)

  pub is_cleaned : IsCleaned file top out
  is_cleaned = record {
    read = a.read;
    flat = a.has.flat;
    expansion = a.has.expansion;
    design = a.has.design;
    mended = mended;
    lint = lint;
    text = its_text;
    printed = expands;
    clean = lint_cleans a.read.source mended top a.has.flat a.has.design.text.spells.numbered its_design lint;
    unchanged = stays;
  }

pub mended_are_clean : MendedAreClean
mended_are_clean file top out a = is_cleaned file top out a
