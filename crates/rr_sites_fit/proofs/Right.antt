-- The sites that are listed are right, as far as the words do not tell.
use Rattle.std.proofs.Common.{◌≡◌, ℕ, ◌+◌, ◌<◌, ◌≤◌, Bool, true, false, if◌then◌else◌, List, [], ◌∷◌, length, map, filter, Option, refl, sym, subst, arith}
use Rattle.std.specs.List.{AllByRecursion, Contains}
use Rattle.std.proofs.lemmas.List.{get_or_default}
use Rattle.std.proofs.lemmas.List.Elements.{All-from_recursion}
use Rattle.rr_syntax.specs.declared.token.Number.{Number}
use Rattle.rr_syntax.specs.Expressions.{spell}
use Rattle.rr_syntax.specs.Items.{spell_item, WellFormedSource, NumberedSource}
use Rattle.rr_syntax.specs.Tree.{Tree, Statement, EventControl, ModuleItem, Ports, Nets, Variables, Integers, Parameters, Assigns, Always, Initial, Instances, ModuleDeclaration, SourceText}
use Rattle.rr_expr.specs.Faults.{first}
use Rattle.rr_expr.specs.Scopes.{Names}
use Rattle.rr_flat.specs.Signals.{Text}
use Rattle.rr_flat.specs.Plain.{Flat}
use Rattle.rr_flat.specs.Reads.{assigned_by}
use Rattle.rr_flatten.specs.Walk.{module_at}
use Rattle.rr_flat.specs.Writers.{scope_at}
use Rattle.rr_flat_instance.specs.Owned.{InEach}
use Rattle.rr_flat_instance.specs.Places.{owner_at, HasWidth}
use Rattle.rr_instance.specs.Firsts.{first_token}
use Rattle.rr_choice.specs.Sites as sites
use Rattle.rr_choice.specs.Sites.{SiteKind, Site, guard_names}
use Rattle.rr_lawful_instance.specs.Listed.{MayGuardIf, items_of, no_item, item_at, item_start, TargetFits, IsRight, KindIsRight}
use Rattle.rr_lawful_instance.proofs.Lists.{both, by_element, holds_of}
use Rattle.rr_lawful_instance.proofs.Origins.{From}
use Rattle.rr_change_places.specs.Spots.{Spot, Body, Test, Value, spots_of_item, is_clocked}
use Rattle.rr_literal.specs.Literals.{is_known}
use Rattle.rr_sites_fit.specs.Laws.{HasClocks}
use Rattle.rr_clock.specs.Places.{Place}
use Rattle.rr_overwrite.specs.Overwrites.{Target, targets_of, may_overwrite, width_in, overwrite_of}
use Rattle.rr_sites_listed.specs.Listing.{sites_at, item_sites, module_sites, scope_of, sites_of}
use Rattle.rr_guard.specs.Names.{names_at}
use Rattle.rr_sites_fit.proofs.Known.{Known}
use Rattle.rr_sites_fit.proofs.Free.{target_free}
use Rattle.rr_sites_fit.proofs.Guards.{names_may}
use Rattle.rr_sites_fit.proofs.ItemStands.{StandsOf, item_stands}
use Rattle.rr_sites_ordered.proofs.Members.{all_filter, all_weaken, all_map, all_flat}
use Rattle.rr_sites_ordered.proofs.Targets.{IsTarget, targets_are, assigns_some}
use Rattle.rr_lawful_instance.proofs.Placed.{item_right, module_there, item_is}

-- only an overwrite asks for a target
guard_fits : (x : ModuleItem) (owner extent : ℕ) (names : List (List ℕ)) → TargetFits x (sites.Guard owner extent names)
guard_fits (Ports p) owner extent names = tt
guard_fits (Nets signed range list) owner extent names = tt
guard_fits (Variables signed range list) owner extent names = tt
guard_fits (Integers list) owner extent names = tt
guard_fits (Parameters p) owner extent names = tt
guard_fits (Assigns pairs) owner extent names = tt
guard_fits (Always events body token) owner extent names = tt
guard_fits (Initial body token) owner extent names = tt
guard_fits (Instances m token over list) owner extent names = tt

-- what is right of a site as far as the words do not tell: they tell a literal
abbrev pub IsGoodKind : SourceText → Flat → Option Text → ℕ → SiteKind → Type 0
IsGoodKind source flat word token (sites.Literal width signed) = Unit {0}
IsGoodKind source flat word token (sites.Guard owner extent names) = KindIsRight source flat word token (sites.Guard owner extent names)
IsGoodKind source flat word token (sites.Overwrite owner target width now names) = KindIsRight source flat word token (sites.Overwrite owner target width now names)

module _ (source : SourceText) (flat : Flat) (word : Option Text) (formed : WellFormedSource source) (numbered : NumberedSource source) (known : Known source.modules flat) (from : From source.modules [] flat) where
  abbrev IsGood : Site → Type 0
  IsGood s = IsGoodKind source flat word s.token s.kind

  module _ (p : Place) (hc : HasClocks flat word p) where
    abbrev k : ℕ
    k = p.owner

    abbrev m : ModuleDeclaration
    m = module_at source.modules k

    abbrev scope : Names
    scope = scope_of flat.scopes flat.owners k

    module _ (n : ℕ) (inside : n < length (items_of source.modules k)) where
      abbrev x : ModuleItem
      x = item_at source.modules k n

      abbrev low : ℕ
      low = item_start source.modules k n

      abbrev high : ℕ
      high = low + length (spell_item x)

      abbrev names : ℕ → List Text
      names token = names_at m p.clocks (is_clocked x) token

      contains_x : Contains (items_of source.modules k) x
      contains_x = (n, inside, sym (get_or_default (items_of source.modules k) n no_item x inside))

      right : (at token : ℕ) (kind : SiteKind) → low ≤ token → token < high → guard_names kind ≡ names at → TargetFits x kind → IsRight source flat word k token kind
      right at token kind l h e t = record {
        item = n;
        stands = record { there = inside; after = l; before = h };
        names = λ i there o. All-from_recursion (MayGuardIf (is_clocked x) flat word i) (guard_names kind)
            (subst (AllByRecursion (MayGuardIf (is_clocked x) flat word i)) (sym e) (names_may source.modules flat known from word p hc i there o (is_clocked x) at));
        target = t;
      }

      -- at a condition
      test_good : (t : Tree) → (low ≤ first t) × (first t < high) → AllByRecursion IsGood (sites_at m k scope p.clocks (is_clocked x) (Test t))
      test_good t h = (right (first t) (first t) (sites.Guard k (length (spell t)) (names (first t))) h.0 h.1 refl (guard_fits x k (length (spell t)) (names (first t))), tt)

      -- at a literal
      value_good : (token : ℕ) (d : Number) → AllByRecursion IsGood (sites_at m k scope p.clocks (is_clocked x) (Value token d))
      value_good token d = by (is_known d)
        where
          by : (b : Bool) → AllByRecursion IsGood (if b then (record { kind = sites.Literal d.width d.signed; token = token }) ∷ [] else [])
          by true = (tt, tt)
          by false = tt

      -- at a body
      module _ (s : Statement) (events : EventControl) (at : ℕ) (is : x ≡ Always events s at) (begins : (assigned_by s ≡ [] → ⊥) → (low ≤ first_token s) × (first_token s < high)) where
        abbrev overwrite : Target → Site
        overwrite t = overwrite_of k scope (names (first_token s)) s t

        width : (t : Target) → Contains (targets_of s) t → may_overwrite m t ≡ true → InEach flat k (λ names. HasWidth names t.text (width_in scope t.text))
        width t c f i there o =
            let at_i : Contains (items_of source.modules (owner_at flat i)) (Always events s at) = subst (λ j. Contains (items_of source.modules j) (Always events s at)) (sym o) (subst (λ y. Contains (items_of source.modules k) y) is contains_x) in
            let w = holds_of (λ (t : Target). may_overwrite (module_at source.modules (owner_at flat i)) t ≡ true → HasWidth (scope_at flat i) t.text (width_in (scope_of flat.scopes flat.owners (owner_at flat i)) t.text)) (targets_of s) t
            (known.widths i there events s at at_i) c in
            subst (λ j. HasWidth (scope_at flat i) t.text (width_in (scope_of flat.scopes flat.owners j) t.text)) o (w (subst (λ j. may_overwrite (module_at source.modules j) t ≡ true) (sym o) f))

        overwrite_good : (t : Target) → IsTarget s t × Contains (targets_of s) t → may_overwrite m t ≡ true → IsGood (overwrite t)
        overwrite_good t h f =
            let w = begins (assigns_some s t h.0) in
            let kind : SiteKind = sites.Overwrite k t.text (width_in scope t.text) t.now (names (first_token s)) in
            (right (first_token s) (first_token s) kind w.0 w.1 refl (subst (λ y. TargetFits y kind) (sym is) h.0), λ i there o. (width t h.1 f i there o, target_free m t f))

        body_good : AllByRecursion IsGood (sites_at m k scope p.clocks (is_clocked x) (Body s))
        body_good =
            let targets : AllByRecursion (λ t. IsTarget s t × Contains (targets_of s) t) (targets_of s) = by_element (λ t. IsTarget s t × Contains (targets_of s) t) (targets_of s) (λ t c. (holds_of (IsTarget s) (targets_of s) t (targets_are s) c, c)) in
            let chosen = all_filter (λ t. IsTarget s t × Contains (targets_of s) t) (may_overwrite m) (targets_of s) targets in
            both IsGood (map overwrite (filter (may_overwrite m) (targets_of s))) []
            (all_map IsGood overwrite (filter (may_overwrite m) (targets_of s))
            (all_weaken (λ (t : Target). (IsTarget s t × Contains (targets_of s) t) × (may_overwrite m t ≡ true)) (filter (may_overwrite m) (targets_of s)) (λ t h. overwrite_good t h.0 h.1) chosen)) tt

      spot_good : (s : Spot) → StandsOf low high x s → AllByRecursion IsGood (sites_at m k scope p.clocks (is_clocked x) s)
      spot_good (Body s) h = body_good s h.0.0 h.0.1.0 h.0.1.1 h.1
      spot_good (Test t) h = test_good t h
      spot_good (Value token d) h = value_good token d

      item_good : AllByRecursion IsGood (item_sites m k scope p.clocks x)
      item_good =
          let w = item_right source k n formed numbered (module_there source.modules k n inside) inside in
          all_flat IsGood (sites_at m k scope p.clocks (is_clocked x)) (spots_of_item x)
          (all_weaken (StandsOf low high x) (spots_of_item x) spot_good (item_stands low high x low w.0 w.1 (omega arith) (omega arith)))

    module_good : AllByRecursion IsGood (module_sites m k scope p.clocks)
    unfolding module_sites
    module_good =
        all_flat IsGood (item_sites m k scope p.clocks) m.items
        (by_element (λ x. AllByRecursion IsGood (item_sites m k scope p.clocks x)) m.items
        (λ x c. subst (λ y. AllByRecursion IsGood (item_sites m k scope p.clocks y)) (item_is source.modules k x c) (item_good c.0 c.1)))

  pub all_good : (places : List Place) → AllByRecursion (HasClocks flat word) places → AllByRecursion IsGood (sites_of source flat.scopes flat.owners places)
  unfolding sites_of
  all_good places h =
      all_flat IsGood (λ p. module_sites (module_at source.modules p.owner) p.owner (scope_of flat.scopes flat.owners p.owner) p.clocks) places (all_weaken (HasClocks flat word) places (λ p hc. module_good p hc) h)
