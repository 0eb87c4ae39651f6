-- The first edit that cannot be made in the file, found one after the other.
use Rattle.std.proofs.Common.{◌≡◌, ◌∙◌, ℕ, ◌+◌, ◌<◌, ◌≤◌, true, false, List, [], ◌∷◌, ◌++◌, length, take, drop, get_or, sym, ap, subst, All}
use Rattle.std.proofs.lemmas.List.{map-append, take-append-drop, take_all, take_more}
use Rattle.std.proofs.lemmas.List.Elements.{All-append, All-from_recursion}
use Rattle.rr_directive.specs.declared.origin.Origin.{Origin}
use Rattle.rr_edit.specs.declared.edit.Edit.{Edit as Made}
use Rattle.rr_edit.specs.Edits.{Edit}
use Rattle.rr_edit.specs.Lifted.{lifts}
use Rattle.rr_edit.specs.View.{plain_edit, plain_edits}
use Rattle.rr_map.proofs.Walks.{here}
use Rattle.rr_lint_file.specs.Files.{IsFirstFixed}

module _ (origins : List Origin) (made : List Made) where
  abbrev pub Lift : List Edit → Type 0
  Lift es = All (λ e. lifts origins e ≡ true) es

  pub first_fixed : (i : ℕ) (e : Made) → i < length made → e ≡ get_or made i e → Lift (plain_edits (take i made)) → false ≡ lifts origins (plain_edit e) → IsFirstFixed origins (plain_edits made) (plain_edit e)
  first_fixed i e within is lift fixed = record {
    before = plain_edits (take i made);
    after = plain_edits (drop (i + 1) made);
    are =
        ap plain_edits (sym (take-append-drop i made)) ∙
        (map-append plain_edit (take i made) (drop i made) ∙ ap (λ (l : List Edit). plain_edits (take i made) ++ l) (here made i e within is));
    lift = lift;
    fixed = sym fixed;
  }

  pub lifts_next : (i : ℕ) (e : Made) → i < length made → e ≡ get_or made i e → Lift (plain_edits (take i made)) → lifts origins (plain_edit e) ≡ true → Lift (plain_edits (take (i + 1) made))
  lifts_next i e within is lift one =
      let more : plain_edits (take (i + 1) made) ≡ plain_edits (take i made) ++ (plain_edit e ∷ []) =
      ap plain_edits (take_more made i e within ∙ ap (λ (x : Made). take i made ++ (x ∷ [])) (sym is)) ∙ map-append plain_edit (take i made) (e ∷ []) in
      subst Lift (sym more) (All-append (λ (x : Edit). lifts origins x ≡ true) (plain_edits (take i made)) (plain_edit e ∷ []) lift (All-from_recursion (λ (x : Edit). lifts origins x ≡ true) (plain_edit e ∷ []) (one, tt)))

  pub lifts_all : (i : ℕ) → length made ≤ i → Lift (plain_edits (take i made)) → Lift (plain_edits made)
  lifts_all i end lift = subst (λ (l : List Made). Lift (plain_edits l)) (take_all i made end) lift
