-- No variable that may be overwritten is a name of a loop: these are integers.
use Rattle.std.proofs.Common.{◌≡◌, Bool, true, false, not, ◌&&◌, ◌||◌, List, [], ◌∷◌, refl}
use Rattle.std.specs.List.{AllByRecursion, list_any}
use Rattle.std.specs.Str.{bytes_eq}
use Rattle.std.proofs.lemmas.Bool.{and_parts, both_ways, not-true}
use Rattle.rr_syntax.specs.Tree.{Identifier, ModuleItem, Ports, Nets, Variables, Integers, Parameters, Assigns, Always, Initial, Instances, ModuleDeclaration}
use Rattle.rr_flat.specs.Signals.{Text}
use Rattle.rr_loop_rules.specs.Rules.{contains, integers_of_item, loop_names}
use Rattle.rr_overwrite.specs.Overwrites.{Target, port_opens, item_opens, is_variable, may_overwrite}
use Rattle.rr_declared_ranges.proofs.Vectors.{all_loops}
use Rattle.rr_sites_ordered.proofs.Members.{all_flat, all_map, all_weaken}
use Rattle.rr_sites_fit.proofs.Tests.{none_in}

-- none passes
none_pass : {X : Type 0} (p : X → Bool) (xs : List X) → AllByRecursion (λ x. p x ≡ false) xs → list_any p xs ≡ false
none_pass p [] h = refl
none_pass p (x ∷ xs) h = by (p x) h.0 (none_pass p xs h.1)
  where
    by : (b : Bool) → b ≡ false → list_any p xs ≡ false → (b || list_any p xs) ≡ false
    by true e r = absurd (both_ways true e refl)
    by false e r = r

module _ (name : Text) where
  abbrev IsOther : Text → Type 0
  IsOther y = bytes_eq name y ≡ false

  other_integers : (x : ModuleItem) → item_opens name x ≡ false → AllByRecursion IsOther (integers_of_item x)
  unfolding item_opens integers_of_item
  other_integers (Ports p) h = tt
  other_integers (Nets signed range list) h = tt
  other_integers (Variables signed range list) h = tt
  other_integers (Integers list) h = all_map IsOther (λ (y : Identifier). y.text) list (none_in (λ (y : Identifier). bytes_eq name y.text) list h)
  other_integers (Parameters p) h = tt
  other_integers (Assigns pairs) h = tt
  other_integers (Always events body token) h = tt
  other_integers (Initial body token) h = tt
  other_integers (Instances m token overrides list) h = tt

  unopened_free : (m : ModuleDeclaration) → list_any (item_opens name) m.items ≡ false → contains (loop_names m) name ≡ false
  unopened_free m h =
      none_pass (bytes_eq name) (loop_names m)
      (all_loops IsOther m
      (all_flat IsOther integers_of_item m.items (all_weaken (λ (x : ModuleItem). item_opens name x ≡ false) m.items (λ x e. other_integers x e) (none_in (item_opens name) m.items h))))

pub target_free : (m : ModuleDeclaration) (t : Target) → may_overwrite m t ≡ true → contains (loop_names m) t.text ≡ false
target_free m t f =
    let p = and_parts (is_variable m t.text) (not (list_any (port_opens t.text) m.groups) && not (list_any (item_opens t.text) m.items)) f in
    let q = and_parts (not (list_any (port_opens t.text) m.groups)) (not (list_any (item_opens t.text) m.items)) p.1 in
    unopened_free t.text m (not-true (list_any (item_opens t.text) m.items) q.1)
