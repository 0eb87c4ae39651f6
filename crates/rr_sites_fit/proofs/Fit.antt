-- Each variable of a module has 1 to 128 bits in each instance, and the places of a design are those of its modules.
use Rattle.std.proofs.Common.{None, ◌≡◌, ◌∙◌, inl, inr, ℕ, suc, ◌+◌, ◌<◌, ◌≤◌, Bool, true, false, ◌||◌, if◌then◌else◌, List, [], ◌∷◌, length, map, flat_map, Option, Ok, refl, sym, subst, ap, arith, nat_eq}
use Rattle.std.specs.Prelude.{slice_index_or}
use Rattle.std.specs.List.{AllByRecursion, list_any}
use Rattle.std.specs.Str.{bytes_eq}
use Rattle.std.proofs.lemmas.Bool.{and_parts, or_cases, both_ways, eqb-true}
use Rattle.std.proofs.lemmas.Slice.Eq.{bytes_eq-Decides}
use Rattle.rr_syntax.specs.Tree.{Identifier, PortDeclaration, Range, ModuleItem, Ports, Nets, Variables, Integers, Parameters, Assigns, Always, Initial, Instances, ModuleDeclaration, SourceText}
use Rattle.rr_expr.specs.Faults.{is_width}
use Rattle.rr_expr.specs.Scopes.{Names, entity_shape, range_width}
use Rattle.rr_flat.specs.Signals.{Text}
use Rattle.rr_flat.specs.Plain.{Flat}
use Rattle.rr_flat.specs.Faults.{and_then, each}
use Rattle.rr_flatten.specs.Tables.{add_module}
use Rattle.rr_flatten.specs.Walk.{enter_top, finished, flat_by, flat_of, module_at, reached_from, top_place}
use Rattle.rr_flatten.proofs.HeadOf.{first_ok, ok_is}
use Rattle.rr_clock.specs.Places.{Place}
use Rattle.rr_guard.specs.Names.{net_name, wordless_name}
use Rattle.rr_overwrite.specs.Overwrites.{is_reg, is_in, port_sets, item_sets, is_variable, width_in}
use Rattle.rr_overwrite.specs.Variables.{AreFit}
use Rattle.rr_sites_listed.specs.Listing.{AreRising, scope_of}
use Rattle.rr_declared_ranges.specs.Ranges.{IsSet, IsMade, IsBy, AreBy, ItemBy, AllBy}
use Rattle.rr_declared_ranges.proofs.Scalars.{scope_by}
use Rattle.rr_declared_ranges.proofs.Tops.{Headed, heads}
use Rattle.rr_sites_ordered.proofs.Members.{all_weaken}
use Rattle.rr_sites_fit.specs.Laws.{ScopesAreFit, PlacesRise}
use Rattle.rr_sites_fit.proofs.Tests.{some_in}
use Rattle.rr_sites_fit.proofs.Widths.{positive, width_fits, first_scope}
use Rattle.rr_sites_fit.proofs.Wordless.{wordless_by}

-- Widths

set_fits : (scope : Names) (name : Text) (r : Option (ℕ × ℕ)) → IsSet scope name r → is_width (width_in scope name) ≡ true
set_fits scope name r s = ap (λ e. is_width (entity_shape e).width) s.means ∙ width_fits (range_width r) (positive r) s.narrow

module _ (scope seen : Names) (name : Text) where
  abbrev Goal : Type 0
  Goal = is_width (width_in scope name) ≡ true

  by_list : (o : Option Range) (list : List Identifier) → AreBy (IsMade scope) seen o list → is_in name list ≡ true → Goal
  by_list o list s h = some_in Goal (λ (x : Identifier). bytes_eq name x.text) list h
      (all_weaken (λ (y : Identifier). IsBy (IsMade scope) seen o y.text) list (λ y k e. subst (λ n. is_width (width_in scope n) ≡ true) (sym ((bytes_eq-Decides name y.text).0 e)) (set_fits scope y.text k.0 k.1.1)) s)

  by_ports : (p : PortDeclaration) → AreBy (IsMade scope) seen p.range (map net_name p.names) → port_sets name p ≡ true → Goal
  by_ports p s h = by_list p.range (map net_name p.names) s (and_parts (is_reg p.dir) (is_in name (map net_name p.names)) h).1

  by_item : (x : ModuleItem) → ItemBy (IsMade scope) seen x → item_sets name x ≡ true → Goal
  unfolding item_sets
  by_item (Ports p) s h = by_ports p s h
  by_item (Nets signed range list) s h = absurd (both_ways false refl h)
  by_item (Variables signed range list) s h = by_list range (flat_map wordless_name list) (wordless_by (IsMade scope) seen range list s) h
  by_item (Integers list) s h = absurd (both_ways false refl h)
  by_item (Parameters p) s h = absurd (both_ways false refl h)
  by_item (Assigns pairs) s h = absurd (both_ways false refl h)
  by_item (Always events body token) s h = absurd (both_ways false refl h)
  by_item (Initial body token) s h = absurd (both_ways false refl h)
  by_item (Instances m token overrides list) s h = absurd (both_ways false refl h)

  by_module : (m : ModuleDeclaration) → AllBy (IsMade scope) seen m → is_variable m name ≡ true → Goal
  by_module m s v = elim (or_cases (list_any (port_sets name) m.groups) (list_any (item_sets name) m.items) v) [
    | inl h ↦ some_in Goal (port_sets name) m.groups h (all_weaken (λ p. AreBy (IsMade scope) seen p.range (map net_name p.names)) m.groups (λ p k q. by_ports p k q) s.groups)
    | inr h ↦ some_in Goal (item_sets name) m.items h (all_weaken (ItemBy (IsMade scope) seen) m.items (λ x k q. by_item x k q) s.items)
  ]

-- in the first instance of a module that has one
fit_scope : (ms : List ModuleDeclaration) (flat : Flat) → Headed ms flat.scopes flat.owners flat.signals → (k i : ℕ) → i < length flat.scopes → slice_index_or flat.owners i 0 ≡ k →
    AreFit (module_at ms k) (scope_of flat.scopes flat.owners k)
fit_scope ms flat h k i l o name v =
    let j = first_scope flat.scopes flat.owners k i h.even l o in
    let b = scope_by ms flat h j.0 j.1.0 in
    let m : AllBy (IsMade (slice_index_or flat.scopes j.0 [])) b.0 (module_at ms k) = subst (λ n. AllBy (IsMade (slice_index_or flat.scopes j.0 [])) b.0 (module_at ms n)) j.1.1.0 b.1 in
    subst (λ n. is_width (width_in n name) ≡ true) (sym j.1.1.1) (by_module (slice_index_or flat.scopes j.0 []) b.0 name (module_at ms k) m v)

-- Modules that have instances

abbrev IsReachedFrom : List ℕ → ℕ → ℕ → ℕ → Type 0
IsReachedFrom owners low high k = (low ≤ k) × (k < high) × (list_any (nat_eq k) owners ≡ true)

abbrev AreReached : List ℕ → ℕ → ℕ → List ℕ → Type 0
AreReached owners low high ks = AllByRecursion (IsReachedFrom owners low high) ks

reached_on : (owners : List ℕ) (k n : ℕ) (ks : List ℕ) → k < n → AreReached owners (k + 1) n ks → (b : Bool) → list_any (nat_eq k) owners ≡ b → AreReached owners k n (if b then k ∷ ks else ks)
reached_on owners k n ks l h true e = ((omega arith, l, e), all_weaken (IsReachedFrom owners (k + 1) n) ks (λ j r. let a = r.0 in (omega (arith, a), r.1, r.2)) h)
reached_on owners k n ks l h false e = all_weaken (IsReachedFrom owners (k + 1) n) ks (λ j r. let a = r.0 in (omega (arith, a), r.1, r.2)) h

reached_is : (owners : List ℕ) (k n : ℕ) (ms : List ModuleDeclaration) → n ≡ k + length ms → AreReached owners k n (reached_from owners k ms)
unfolding reached_from
reached_is owners k n [] e = tt
reached_is owners k n (m ∷ ms) e = reached_on owners k n (reached_from owners (k + 1) ms) (omega (arith, e)) (reached_is owners (k + 1) n ms (omega (arith, e))) (list_any (nat_eq k) owners) refl

-- each is greater than those before it
unfoldable Rises : ℕ → List ℕ → Type 0
Rises n [] = Unit {0}
Rises n (k ∷ ks) = (k < n) × AllByRecursion (λ j. k < j) ks × Rises n ks

rises_on : (owners : List ℕ) (k n : ℕ) (ks : List ℕ) → k < n → AreReached owners (k + 1) n ks → Rises n ks → (b : Bool) → Rises n (if b then k ∷ ks else ks)
unfolding Rises
rises_on owners k n ks l h r true = (l, all_weaken (IsReachedFrom owners (k + 1) n) ks (λ j q. let a = q.0 in omega (arith, a)) h, r)
rises_on owners k n ks l h r false = r

reached_rises : (owners : List ℕ) (k n : ℕ) (ms : List ModuleDeclaration) → n ≡ k + length ms → Rises n (reached_from owners k ms)
unfolding reached_from Rises
reached_rises owners k n [] e = tt
reached_rises owners k n (m ∷ ms) e =
    rises_on owners k n (reached_from owners (k + 1) ms) (omega (arith, e)) (reached_is owners (k + 1) n ms (omega (arith, e))) (reached_rises owners (k + 1) n ms (omega (arith, e))) (list_any (nat_eq k) owners)

-- an instance of a module that has one
abbrev HasOwner : List ℕ → ℕ → Type 0
HasOwner owners k = (i : ℕ) × ((i < length owners) × (slice_index_or owners i 0 ≡ k))

owner_on : (o k : ℕ) (os : List ℕ) → (list_any (nat_eq k) os ≡ true → HasOwner os k) → (b : Bool) → nat_eq k o ≡ b → (b || list_any (nat_eq k) os) ≡ true → HasOwner (o ∷ os) k
owner_on o k os r true q e = (0, (omega arith, sym (eqb-true k o q)))
owner_on o k os r false q e = let f = r e in let l = f.1.0 in (suc f.0, (omega (arith, l), f.1.1))

has_owner : (owners : List ℕ) (k : ℕ) → list_any (nat_eq k) owners ≡ true → HasOwner owners k
has_owner [] k e = absurd (both_ways false refl e)
has_owner (o ∷ os) k e = owner_on o k os (has_owner os k) (nat_eq k o) refl e

-- those of a flat design
reached_of : (source : SourceText) (top : Option Text) (flat : Flat) → flat_of source top ≡ Ok flat → flat.reached ≡ reached_from flat.owners 0 source.modules
unfolding flat_by
reached_of source top flat e =
    let r = first_ok (each add_module source.modules []) (λ table. and_then (enter_top None source.modules table (top_place source.modules table top)) (λ w. Ok (finished source.modules w.flat))) flat e in
    let s = first_ok (enter_top None source.modules r.0 (top_place source.modules r.0 top)) (λ w. Ok (finished source.modules w.flat)) flat r.1.1 in
    subst (λ (x : Flat). x.reached ≡ reached_from x.owners 0 source.modules) (ok_is (finished source.modules s.0.flat) flat s.1.1) refl

owners_all : (P : ℕ → Type 0) (ps : List Place) → AllByRecursion P (map (λ (p : Place). p.owner) ps) → AllByRecursion (λ (p : Place). P p.owner) ps
owners_all P [] h = tt
owners_all P (p ∷ ps) h = (h.0, owners_all P ps h.1)

owners_rise : (n : ℕ) (ps : List Place) → Rises n (map (λ (p : Place). p.owner) ps) → AreRising n ps
unfolding Rises AreRising
owners_rise n [] h = tt
owners_rise n (p ∷ ps) h = (h.0, owners_all (λ j. p.owner < j) ps h.1, owners_rise n ps h.2)

pub places_rise : PlacesRise
places_rise source top flat clock places e g =
    owners_rise (length source.modules) places
    (subst (Rises (length source.modules)) (sym (g.owners ∙ reached_of source top flat e)) (reached_rises flat.owners 0 (length source.modules) source.modules (omega arith)))

pub scopes_fit : ScopesAreFit
scopes_fit source top flat clock places e g =
    let h = heads source top flat e in
    let even = h.even in
    owners_all (λ k. AreFit (module_at source.modules k) (scope_of flat.scopes flat.owners k)) places
    (subst (AllByRecursion (λ k. AreFit (module_at source.modules k) (scope_of flat.scopes flat.owners k))) (sym (g.owners ∙ reached_of source top flat e))
    (all_weaken (IsReachedFrom flat.owners 0 (length source.modules)) (reached_from flat.owners 0 source.modules)
    (λ k r. let i = has_owner flat.owners k r.2 in let l = i.1.0 in fit_scope source.modules flat h k i.0 (omega (arith, l, even)) i.1.1) (reached_is flat.owners 0 (length source.modules) source.modules (omega arith))))
