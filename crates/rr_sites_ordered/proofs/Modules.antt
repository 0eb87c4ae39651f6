-- The sites of modules are in order, and literals are among them.
use Rattle.std.proofs.Common.{◌≡◌, ℕ, zero, suc, ◌+◌, ◌<◌, ◌≤◌, Bool, true, false, if◌then◌else◌, List, [], ◌∷◌, ◌++◌, length, map, filter, flat_map, refl, ap, ap₂, ◌∙◌, arith, append-nil}
use Rattle.std.specs.List.{AllByRecursion}
use Rattle.rr_syntax.specs.Items.{spell_item, spell_parameters, spell_ports, spell_all, spell_module, WellFormedModule, WellFormedSource, NumberedModule, NumberedSource}
use Rattle.rr_syntax.specs.Tree.{Statement, ModuleDeclaration, SourceText}
use Rattle.rr_expr.specs.Scopes.{Names}
use Rattle.rr_flat.specs.Signals.{Text}
use Rattle.rr_flatten.specs.Walk.{module_at}
use Rattle.rr_flat_instance.specs.Owned.{start_of}
use Rattle.rr_flat_instance.proofs.Spans as span
use Rattle.rr_flat_instance.proofs.Modules.{numbered_module}
use Rattle.rr_choice.specs.Places.{is_literal, is_overwrite}
use Rattle.rr_choice.specs.Sites as sites
use Rattle.rr_choice.specs.Sites.{Site}
use Rattle.rr_flatten.proofs.HeadOf.{all_append as both}
use Rattle.rr_literal.specs.Literals.{is_known, literal_at, literal_sites}
use Rattle.rr_change_places.specs.Spots.{Spot, Body, Test, Value, spots_of_item, is_clocked}
use Rattle.rr_sites_listed.specs.Listing.{AreRising, sites_at, item_sites, module_sites, scope_of, sites_of}
use Rattle.rr_sites_ordered.specs.Order.{is_test, SitesAreInOrder, KindsAreAmong, InOrder}
use Rattle.rr_instance.specs.Firsts.{first_token}
use Rattle.rr_guard.specs.Guards.{guard_at, guard_sites}
use Rattle.rr_guard.specs.Names.{names_at}
use Rattle.rr_clock.specs.Places.{Place}
use Rattle.rr_overwrite.specs.Overwrites.{Target, targets_of, may_overwrite, overwrite_of, overwrites_at, overwrite_sites}
use Rattle.rr_sites_ordered.proofs.Members.{all_weaken}
use Rattle.rr_sites_ordered.proofs.Ordered.{Stays, stays_wider, order_join, items_in}

-- Order

module_in : (source : SourceText) (k : ℕ) (scope : Names) (clocks : List Text) → WellFormedSource source → NumberedSource source → k < length source.modules →
    Stays (start_of source.modules k) (start_of source.modules k + length (spell_module (module_at source.modules k))) (module_sites (module_at source.modules k) k scope clocks)
unfolding WellFormedSource NumberedSource WellFormedModule NumberedModule module_sites
module_in source k scope clocks w n l =
    let m = module_at source.modules k in
    let r = numbered_module source.modules 0 k w n l in
    let e = span.long-module m in
    let start = 0 + start_of source.modules k + 2 + length (spell_parameters m.params) + length (spell_ports m.header m.groups) + 1 in
    stays_wider start (start + length (spell_all spell_item m.items)) (start_of source.modules k) (start_of source.modules k + length (spell_module m)) (flat_map (item_sites m k scope clocks) m.items) (omega arith) (omega (arith, e))
    (items_in m k scope clocks m.items start r.0.3 r.1.3)

follows : (ms : List ModuleDeclaration) (k l : ℕ) → k < l → k < length ms → start_of ms k + length (spell_module (module_at ms k)) ≤ start_of ms l
unfolding start_of
follows [] k l h m = absurd (omega (arith, m))
follows (x ∷ ms) zero zero h m = absurd (omega (arith, h))
follows (x ∷ ms) zero (suc l) h m = omega arith
follows (x ∷ ms) (suc k) zero h m = absurd (omega (arith, h))
follows (x ∷ ms) (suc k) (suc l) h m = let f = follows ms k l (omega (arith, h)) (omega (arith, m)) in omega (arith, f)

module _ (source : SourceText) (scopes : List Names) (owners : List ℕ) (w : WellFormedSource source) (n : NumberedSource source) where
  abbrev sites_at_place : Place → List Site
  sites_at_place p = module_sites (module_at source.modules p.owner) p.owner (scope_of scopes owners p.owner) p.clocks

  -- from a token on
  all_after : (low : ℕ) (places : List Place) → AreRising (length source.modules) places → AllByRecursion (λ (p : Place). low ≤ start_of source.modules p.owner) places → AllByRecursion (λ (s : Site). low ≤ s.token) (flat_map sites_at_place places)
  unfolding AreRising
  all_after low [] r h = tt
  all_after low (p ∷ ps) r h =
      let l = h.0 in
      both (λ (s : Site). low ≤ s.token) (sites_at_place p) (flat_map sites_at_place ps)
      (all_weaken (λ (s : Site). (start_of source.modules p.owner ≤ s.token) × (s.token < start_of source.modules p.owner + length (spell_module (module_at source.modules p.owner)))) (sites_at_place p) (λ s v. omega (arith, v, l))
      (module_in source p.owner (scope_of scopes owners p.owner) p.clocks w n r.0).all)
      (all_after low ps r.2 h.1)

  places_in : (places : List Place) → AreRising (length source.modules) places → InOrder (flat_map sites_at_place places)
  unfolding AreRising InOrder
  places_in [] r = tt
  places_in (p ∷ ps) r =
      let high = start_of source.modules p.owner + length (spell_module (module_at source.modules p.owner)) in
      let here = module_in source p.owner (scope_of scopes owners p.owner) p.clocks w n r.0 in
      order_join high (sites_at_place p) (flat_map sites_at_place ps) (all_weaken (λ (s : Site). (start_of source.modules p.owner ≤ s.token) × (s.token < high)) (sites_at_place p) (λ s v. v.1) here.all)
      (all_after high ps r.2 (all_weaken (λ (q : Place). p.owner < q.owner) ps (λ q h. follows source.modules p.owner q.owner h r.0) r.1)) here.order (places_in ps r.2)

pub in_order : SitesAreInOrder
unfolding sites_of
in_order source scopes owners places w n r = places_in source scopes owners w n places r

-- Kinds

module _ (p : Site → Bool) where
  filter_append : (xs ys : List Site) → filter p (xs ++ ys) ≡ filter p xs ++ filter p ys
  filter_append [] ys = refl
  filter_append (x ∷ xs) ys = by (p x) (filter_append xs ys)
    where
      by : (b : Bool) → filter p (xs ++ ys) ≡ filter p xs ++ filter p ys → (if b then x ∷ filter p (xs ++ ys) else filter p (xs ++ ys)) ≡ (if b then x ∷ filter p xs else filter p xs) ++ filter p ys
      by true e = ap (λ z. x ∷ z) e
      by false e = e

  filter_flat : {X : Type 0} (f g : X → List Site) → ((x : X) → filter p (f x) ≡ g x) → (xs : List X) → filter p (flat_map f xs) ≡ flat_map g xs
  filter_flat f g h [] = refl
  filter_flat f g h (x ∷ xs) = filter_append (f x) (flat_map f xs) ∙ ap₂ (λ a b. a ++ b) (h x) (filter_flat f g h xs)

  filter_none : {Y : Type 0} (f : Y → Site) → ((y : Y) → p (f y) ≡ false) → (ys : List Y) → filter p (map f ys) ≡ []
  filter_none f h [] = refl
  filter_none f h (y ∷ ys) = ap (λ b. if b then f y ∷ filter p (map f ys) else filter p (map f ys)) (h y) ∙ filter_none f h ys

  filter_all : {Y : Type 0} (f : Y → Site) → ((y : Y) → p (f y) ≡ true) → (ys : List Y) → filter p (map f ys) ≡ map f ys
  filter_all f h [] = refl
  filter_all f h (y ∷ ys) = ap (λ b. if b then f y ∷ filter p (map f ys) else filter p (map f ys)) (h y) ∙ ap (λ z. f y ∷ z) (filter_all f h ys)

module _ (m : ModuleDeclaration) (owner : ℕ) (scope : Names) (clocks : List Text) where
  abbrev overwrite : Bool → Statement → Target → Site
  overwrite c s t = overwrite_of owner scope (names_at m clocks c (first_token s)) s t

  abbrev chosen : Statement → List Target
  chosen s = filter (may_overwrite m) (targets_of s)

  -- literals
  spot_literals : (c : Bool) (s : Spot) → filter (λ (s : Site). is_literal s.kind) (sites_at m owner scope clocks c s) ≡ literal_at s
  spot_literals c (Body s) =
      filter_append (λ (s : Site). is_literal s.kind) (map (overwrite c s) (chosen s)) [] ∙ ap (λ z. z ++ []) (filter_none (λ (s : Site). is_literal s.kind) (overwrite c s) (λ t. refl) (chosen s))
  spot_literals c (Test t) = refl
  spot_literals c (Value token d) = by (is_known d)
    where
      by : (b : Bool) → filter (λ (s : Site). is_literal s.kind) (if b then (record { kind = sites.Literal d.width d.signed; token = token }) ∷ [] else []) ≡ (if b then (record { kind = sites.Literal d.width d.signed; token = token }) ∷ [] else [])
      by true = refl
      by false = refl

  module_literals : filter (λ (s : Site). is_literal s.kind) (module_sites m owner scope clocks) ≡ literal_sites m
  unfolding module_sites literal_sites
  module_literals =
      filter_flat (λ (s : Site). is_literal s.kind) (item_sites m owner scope clocks) (λ x. flat_map literal_at (spots_of_item x))
      (λ x. filter_flat (λ (s : Site). is_literal s.kind) (sites_at m owner scope clocks (is_clocked x)) literal_at (spot_literals (is_clocked x)) (spots_of_item x)) m.items

  -- guards
  spot_guards : (c : Bool) (s : Spot) → filter (λ (s : Site). is_test s.kind) (sites_at m owner scope clocks c s) ≡ guard_at m owner clocks c s
  spot_guards c (Body s) =
      filter_append (λ (s : Site). is_test s.kind) (map (overwrite c s) (chosen s)) [] ∙ ap (λ z. z ++ []) (filter_none (λ (s : Site). is_test s.kind) (overwrite c s) (λ t. refl) (chosen s))
  spot_guards c (Test t) = refl
  spot_guards c (Value token d) = by (is_known d)
    where
      by : (b : Bool) → filter (λ (s : Site). is_test s.kind) (if b then (record { kind = sites.Literal d.width d.signed; token = token }) ∷ [] else []) ≡ []
      by true = refl
      by false = refl

  module_guards : filter (λ (s : Site). is_test s.kind) (module_sites m owner scope clocks) ≡ guard_sites m owner clocks
  unfolding module_sites guard_sites
  module_guards =
      filter_flat (λ (s : Site). is_test s.kind) (item_sites m owner scope clocks) (λ x. flat_map (guard_at m owner clocks (is_clocked x)) (spots_of_item x))
      (λ x. filter_flat (λ (s : Site). is_test s.kind) (sites_at m owner scope clocks (is_clocked x)) (guard_at m owner clocks (is_clocked x)) (spot_guards (is_clocked x)) (spots_of_item x)) m.items

  -- overwrites
  spot_overwrites : (c : Bool) (s : Spot) → filter (λ (s : Site). is_overwrite s.kind) (sites_at m owner scope clocks c s) ≡ overwrites_at m owner scope clocks c s
  spot_overwrites c (Body s) =
      filter_append (λ (s : Site). is_overwrite s.kind) (map (overwrite c s) (chosen s)) [] ∙ ap (λ z. z ++ []) (filter_all (λ (s : Site). is_overwrite s.kind) (overwrite c s) (λ t. refl) (chosen s)) ∙ append-nil (map (overwrite c s) (chosen s))
  spot_overwrites c (Test t) = refl
  spot_overwrites c (Value token d) = by (is_known d)
    where
      by : (b : Bool) → filter (λ (s : Site). is_overwrite s.kind) (if b then (record { kind = sites.Literal d.width d.signed; token = token }) ∷ [] else []) ≡ []
      by true = refl
      by false = refl

  module_overwrites : filter (λ (s : Site). is_overwrite s.kind) (module_sites m owner scope clocks) ≡ overwrite_sites m owner scope clocks
  unfolding module_sites overwrite_sites
  module_overwrites =
      filter_flat (λ (s : Site). is_overwrite s.kind) (item_sites m owner scope clocks) (λ x. flat_map (overwrites_at m owner scope clocks (is_clocked x)) (spots_of_item x))
      (λ x. filter_flat (λ (s : Site). is_overwrite s.kind) (sites_at m owner scope clocks (is_clocked x)) (overwrites_at m owner scope clocks (is_clocked x)) (spot_overwrites (is_clocked x)) (spots_of_item x)) m.items

pub kinds_among : KindsAreAmong
kinds_among = record { literals = module_literals; guards = module_guards; overwrites = module_overwrites }
