-- The sites of a source make a list: each has its width and few names, and none begins before the one that it follows.
use Rattle.std.proofs.Common.{◌≡◌, inl, inr, ℕ, zero, suc, ◌<◌, ◌≤◌, Bool, true, false, if◌then◌else◌, List, [], ◌∷◌, length, map, filter, flat_map, arith, nat_lt}
use Rattle.std.specs.List.{AllByRecursion}
use Rattle.std.proofs.lemmas.Bool.{and_parts, ltb-true}
use Rattle.std.proofs.lemmas.List.{length-take}
use Rattle.rr_syntax.specs.Items.{spell_source, WellFormedSource, NumberedSource, FitLiteralsSource}
use Rattle.rr_syntax.specs.Tree.{Statement, ModuleDeclaration, SourceText}
use Rattle.rr_expr.specs.Faults.{first, is_width}
use Rattle.rr_expr.specs.Scopes.{Names}
use Rattle.rr_flat.specs.Signals.{Text}
use Rattle.rr_instance.specs.Firsts.{first_token}
use Rattle.rr_choice.specs.Sites as sites
use Rattle.rr_choice.specs.Sites.{SiteKind, Site, guard_names, HasWidth, IsSite, IsSiteList}
use Rattle.rr_choice.proofs.Listed.{Rising, listed_of}
use Rattle.rr_change_places.specs.Spots.{Spot, Body, Test, Value, is_clocked, spots_of_item}
use Rattle.rr_literal.specs.Literals.{is_known}
use Rattle.rr_guard.specs.Names.{guard_names as names_of_guards, first_names, names_at, texts_of, is_before}
use Rattle.rr_overwrite.specs.Overwrites.{Target, targets_of, may_overwrite, is_variable, overwrite_of, width_in}
use Rattle.rr_overwrite.specs.Variables.{AreFit}
use Rattle.rr_clock.specs.Places.{Place}
use Rattle.rr_sites_listed.specs.Listing.{AreFitScopes, AreRising, module_at, sites_at, item_sites, module_sites, place_sites, scope_of, sites_of}
use Rattle.rr_sites_ordered.specs.Order.{Precedes, InOrder}
use Rattle.rr_flatten.proofs.HeadOf.{all_append as both}
use Rattle.rr_sites_ordered.proofs.Members.{all_filter, all_flat, all_map, all_every, all_weaken}
use Rattle.rr_sites_ordered.proofs.Modules.{in_order}
use Rattle.rr_sites_ordered.proofs.Short.{IsShort, AreShort, IsShortModule, source_short}

-- Names

few_names : (m : ModuleDeclaration) (clocks : List Text) (c : Bool) (token : ℕ) → length (names_at m clocks c token) ≤ 64
unfolding first_names
few_names m clocks c token = let e = length-take 64 (texts_of (filter (is_before token) (names_of_guards m clocks c))) in omega (arith, e)

-- Widths

width_is : (w : ℕ) → is_width w ≡ true → (0 < w) × (w ≤ 128)
width_is w e =
    let p = and_parts (nat_lt 0 w) (nat_lt w 129) e in
    let a = ltb-true 0 w p.0 in
    let b = ltb-true w 129 p.1 in
    (a, omega (arith, b))

module _ (m : ModuleDeclaration) (owner : ℕ) (scope : Names) (clocks : List Text) (fit : AreFit m scope) (n : ℕ) where
  chosen_is : (c : Bool) (s : Statement) (t : Target) → may_overwrite m t ≡ true → IsSite (overwrite_of owner scope (names_at m clocks c (first_token s)) s t)
  chosen_is c s t h =
      let v = (and_parts (is_variable m t.text) _ h).0 in
      record { width = width_is (width_in scope t.text) (fit t.text v); names = few_names m clocks c (first_token s) }

  spot_is : (c : Bool) (s : Spot) → IsShort n s → AllByRecursion IsSite (sites_at m owner scope clocks c s)
  spot_is c (Body s) h =
      let chosen = all_filter (λ (t : Target). Unit {0}) (may_overwrite m) (targets_of s) (all_every (λ (t : Target). Unit {0}) (targets_of s) (λ t. tt)) in
      both IsSite (map (overwrite_of owner scope (names_at m clocks c (first_token s)) s) (filter (may_overwrite m) (targets_of s))) []
      (all_map IsSite (overwrite_of owner scope (names_at m clocks c (first_token s)) s) (filter (may_overwrite m) (targets_of s))
      (all_weaken (λ (t : Target). Unit {0} × (may_overwrite m t ≡ true)) (filter (may_overwrite m) (targets_of s)) (λ t k. chosen_is c s t k.1) chosen)) tt
  spot_is c (Test t) h = (record { width = tt; names = few_names m clocks c (first t) }, tt)
  spot_is c (Value token d) h = by (is_known d)
    where
      by : (b : Bool) → AllByRecursion IsSite (if b then (record { kind = sites.Literal d.width d.signed; token = token }) ∷ [] else [])
      by true = (record { width = (h.some, h.wide); names = omega arith }, tt)
      by false = tt

  module_is : IsShortModule n m → AllByRecursion IsSite (module_sites m owner scope clocks)
  unfolding module_sites
  module_is h =
      all_flat IsSite (item_sites m owner scope clocks) m.items
      (all_weaken (AreShort n) m.items (λ x k. all_flat IsSite (sites_at m owner scope clocks (is_clocked x)) (spots_of_item x) (all_weaken (IsShort n) (spots_of_item x) (λ s q. spot_is (is_clocked x) s q) k)) h)

-- a module of a place is one of the source
short_at : (n k : ℕ) (ms : List ModuleDeclaration) → k < length ms → AllByRecursion (IsShortModule n) ms → IsShortModule n (module_at ms k)
short_at n k [] l h = absurd (omega (arith, l))
short_at n zero (m ∷ ms) l h = h.0
short_at n (suc k) (m ∷ ms) l h = short_at n k ms (omega (arith, l)) h.1

places_are : (source : SourceText) (scopes : List Names) (owners : List ℕ) (n : ℕ) (places : List Place) → AllByRecursion (IsShortModule n) source.modules → AreRising (length source.modules) places → AreFitScopes source scopes owners places →
    AllByRecursion (λ (p : Place). AllByRecursion IsSite (place_sites source scopes owners p)) places
unfolding AreRising
places_are source scopes owners n [] s r f = tt
places_are source scopes owners n (p ∷ ps) s r f = (
  module_is (module_at source.modules p.owner) p.owner (scope_of scopes owners p.owner) p.clocks f.0 n (short_at n p.owner source.modules r.0 s),
  places_are source scopes owners n ps s r.2 f.1,
)

-- Order

not_before : (a b : Site) → Precedes a b → a.token ≤ b.token
not_before a b (inl l) = omega (arith, l)
not_before a b (inr (e, k)) = omega (arith, e)

rising : (last : ℕ) (ss : List Site) → AllByRecursion (λ (s : Site). last ≤ s.token) ss → AllByRecursion IsSite ss → InOrder ss → Rising last ss
unfolding Rising InOrder
rising last [] l h o = tt
rising last (s ∷ ss) l h o = (l.0, (h.0, rising s.token ss (all_weaken (Precedes s) ss (λ x p. not_before s x p) o.0) h.1 o.1))

pub sites_listed : (source : SourceText) (scopes : List Names) (owners : List ℕ) (places : List Place) → WellFormedSource source → NumberedSource source → FitLiteralsSource source →
    AreRising (length source.modules) places → AreFitScopes source scopes owners places → IsSiteList (sites_of source scopes owners places)
unfolding sites_of
sites_listed source scopes owners places w n f r h =
    let ss = flat_map (place_sites source scopes owners) places in
    let long = length (spell_source source) in
    listed_of ss
    (rising 0 ss (all_every (λ (s : Site). 0 ≤ s.token) ss (λ s. omega arith))
    (all_flat IsSite (place_sites source scopes owners) places (places_are source scopes owners long places (source_short long source f (omega arith)) r h))
    (in_order source scopes owners places w n r))
