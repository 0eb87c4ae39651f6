-- The edits of a choice of kept sites, made in the file.
use Rattle.std.proofs.Common.{◌≡◌, ◌∙◌, ℕ, true, List, length, sym, ap, subst}
use Rattle.std.specs.List.{All}
use Rattle.rr_directive.specs.Expand.{IsExpansion}
use Rattle.rr_grammar.specs.Trees.{IsTree}
use Rattle.rr_choice.specs.declared.pick.Pick.{Pick}
use Rattle.rr_choice.specs.Sites.{Site, IsSiteList}
use Rattle.rr_instance.specs.Instances.{instance_source}
use Rattle.rr_respell.specs.Printing.{edits_of}
use Rattle.rr_respell.proofs.PrintedTree.{prints_instance}
use Rattle.rr_edit.specs.Edits.{Edit, edited, AreEdits, InOrder, IsPlaced, IsPut}
use Rattle.rr_edit.specs.Lifted.{lifted, lifts}
use Rattle.rr_patch.specs.Edits.{byte_edits}
use Rattle.rr_patch.proofs.Printed.{fit_widths}
use Rattle.rr_put_laws.proofs.Put.{news_are_put}
use Rattle.rr_kept.specs.Read.{IsRead, SourceFile}
use Rattle.rr_kept.proofs.Together.{kept_lift}
use Rattle.rr_lift.proofs.Lifts.{lift_expands}
use Rattle.rr_map.specs.Printed.{printed_file, printed_text, ExpandsTo}

module _ (bytes : List ℕ) (file : SourceFile) (ss : List Site) (ps : List Pick) (r : IsRead bytes file ss) (listed : IsSiteList ss) (made : List Edit)
    (exact : made ≡ byte_edits file.tokens (edits_of ss ps file.source)) where
  pub all_lift : All (λ e. lifts file.origins e ≡ true) made
  all_lift = subst (All (λ e. lifts file.origins e ≡ true)) (sym exact) (kept_lift file.origins file.tokens file.source r.listed ss ps r.spells r.numbered r.kept)

  pub as_file : (out : List ℕ) → out ≡ lifted file.origins made 0 bytes → out ≡ printed_file bytes file ss ps
  as_file out e = e ∙ ap (λ (es : List Edit). lifted file.origins es 0 bytes) exact

  are_edits : InOrder 0 (length file.text) made → All (IsPlaced file.text) made → AreEdits file.text made
  are_edits order placed = record {
    order = order;
    placed = placed;
    put = subst (All (λ e. IsPut e.text)) (sym exact) (news_are_put file.tokens file.source ss ps (fit_widths ss listed) r.named);
  }

  its_tree : IsTree file.text file.source
  its_tree = record { tokens = file.tokens; are = r.tokens; spells = r.spells }

  pub expands : (out : List ℕ) → out ≡ lifted file.origins made 0 bytes → InOrder 0 (length file.text) made → All (IsPlaced file.text) made → edited 0 file.text made ≡ printed_text file ss ps →
      ExpandsTo out (printed_text file ss ps) (instance_source ss ps file.source)
  unfolding its_tree
  expands out e order placed printed =
      let lifted_is = lift_expands bytes file.text file.origins made r.expansion (are_edits order placed) all_lift in
      record {
        origins = lifted_is.0;
        expansion =
            subst (λ (o : List ℕ). IsExpansion o (printed_text file ss ps) lifted_is.0) (sym e)
            (subst (λ (t : List ℕ). IsExpansion (lifted file.origins made 0 bytes) t lifted_is.0) printed lifted_is.1);
        tree = prints_instance file.text file.source its_tree ss ps (fit_widths ss listed) r.named;
      }
