-- What texts ask for, unit by unit.
use Rattle.std.proofs.Common.{ℕ, ◌≡◌, ◌||◌, List, [], ◌∷◌, ◌++◌, map, Bool, true, false, Some, refl, ap, ◌∙◌, sym, subst}
use Rattle.std.specs.List.{flat_map, list_any, slice_get}
use Rattle.std.proofs.lemmas.List.{append_assoc, append-nil}
use Rattle.rr_directive.specs.declared.piece.Kind.{Kind}
use Rattle.rr_directive.specs.declared.piece.Kind.TheVariants as kind
use Rattle.rr_directive.specs.declared.definitions.Part.{Part}
use Rattle.rr_directive.specs.declared.definitions.Part.TheVariants as part
use Rattle.rr_directive.specs.Pieces.{TextUnit}
use Rattle.rr_directive.specs.Expand.{Item, Byte, Use, is_named, items_of}
use Rattle.rr_directive.specs.View.{AreItems, Extends}
use Rattle.rr_directive.proofs.Names.{items_extended, zip_append, zip_bytes}

abbrev pub its_items : TextUnit → List Item
its_items u = items_of u.piece.kind u

abbrev pub is_directive : TextUnit → Bool
is_directive u = is_named u.piece.kind

own_items : (k : Kind) (u : TextUnit) → (k ≡ kind.Use → ⊥) → items_of k u ≡ map Byte u.bytes
unfolding items_of
own_items kind.Comment u h = refl
own_items kind.Escaped u h = refl
own_items kind.Plain u h = refl
own_items kind.Use u h = absurd (h refl)
own_items (kind.Named d) u h = refl

use_items : (k : Kind) (u : TextUnit) → k ≡ kind.Use → items_of k u ≡ Use u.piece.name ∷ []
unfolding items_of
use_items k u e = subst (λ (x : Kind). items_of x u ≡ Use u.piece.name ∷ []) (sym e) refl

pub unit_used : (names more : List (List ℕ)) (ps qs : List Part) (items : List Item) (k : Kind) (u : TextUnit) (number : ℕ) → Extends names more → k ≡ kind.Use → slice_get more number ≡ Some u.piece.name →
    qs ≡ ps ++ (part.Use number ∷ []) → AreItems names ps items → AreItems more qs (items ++ items_of k u)
unit_used names more ps qs items k u number x e n q h =
    subst (λ (xs : List Part). AreItems more xs (items ++ items_of k u)) (sym q) (subst (λ (js : List Item). AreItems more (ps ++ (part.Use number ∷ [])) (items ++ js)) (sym (use_items k u e))
    (zip_append more ps (part.Use number ∷ []) items (Use u.piece.name ∷ []) (items_extended names more ps items x h) (n, tt)))

pub unit_given : (names : List (List ℕ)) (ps qs : List Part) (items : List Item) (k : Kind) (u : TextUnit) → (k ≡ kind.Use → ⊥) → qs ≡ ps ++ map part.Byte u.bytes → AreItems names ps items → AreItems names qs (items ++ items_of k u)
unit_given names ps qs items k u n q h =
    subst (λ (xs : List Part). AreItems names xs (items ++ items_of k u)) (sym q) (subst (λ (js : List Item). AreItems names (ps ++ map part.Byte u.bytes) (items ++ js)) (sym (own_items k u n))
    (zip_append names ps (map part.Byte u.bytes) items (map Byte u.bytes) h (zip_bytes names u.bytes)))

pub text_on : (all items : List Item) (vs us : List TextUnit) (u : TextUnit) → vs ≡ u ∷ us → items ++ flat_map its_items vs ≡ all → (items ++ its_items u) ++ flat_map its_items us ≡ all
text_on all items vs us u e h = append_assoc items (its_items u) (flat_map its_items us) ∙ (ap (λ (ws : List TextUnit). items ++ flat_map its_items ws) (sym e) ∙ h)

pub text_done : (all items : List Item) (vs : List TextUnit) → vs ≡ [] → items ++ flat_map its_items vs ≡ all → items ≡ all
text_done all items vs e h = sym (append-nil items) ∙ (ap (λ (ws : List TextUnit). items ++ flat_map its_items ws) (sym e) ∙ h)

pub plain_on : (all : Bool) (vs us : List TextUnit) (u : TextUnit) → vs ≡ u ∷ us → is_directive u ≡ false → list_any is_directive vs ≡ all → list_any is_directive us ≡ all
plain_on all vs us u e n h = sym (ap (λ (b : Bool). b || list_any is_directive us) n) ∙ (ap (list_any is_directive) (sym e) ∙ h)

pub plain_not : (all : Bool) (vs us : List TextUnit) (u : TextUnit) → vs ≡ u ∷ us → is_directive u ≡ true → list_any is_directive vs ≡ all → all ≡ true
plain_not all vs us u e n h = sym h ∙ (ap (list_any is_directive) e ∙ ap (λ (b : Bool). b || list_any is_directive us) n)

pub plain_done : (all : Bool) (vs : List TextUnit) → vs ≡ [] → list_any is_directive vs ≡ all → all ≡ false
plain_done all vs e h = sym h ∙ ap (list_any is_directive) e
