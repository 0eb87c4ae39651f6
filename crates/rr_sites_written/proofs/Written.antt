-- Each name of a site is declared in its module.
use Rattle.std.proofs.Common.{◌≡◌, ℕ, Bool, true, false, ◌||◌, if◌then◌else◌, List, [], ◌∷◌, ◌++◌, map, filter, flat_map, Option, Some, None, refl, sym, subst, zero, suc}
use Rattle.std.specs.List.{AllByRecursion, All, list_any}
use Rattle.std.specs.Str.{bytes_eq}
use Rattle.std.proofs.lemmas.Slice.Eq.{bytes_eq-Decides}
use Rattle.std.proofs.lemmas.Bool.{and_parts, false≢true}
use Rattle.rr_syntax.specs.Tree.{Identifier, Range, PortDeclaration, DeclaredName, ModuleItem, Ports, Nets, Variables, Integers, Parameters, Assigns, Always, Initial, Instances, ModuleDeclaration}
use Rattle.rr_lex.specs.Patch.{IsNameText}
use Rattle.rr_expr.specs.Scopes.{Names}
use Rattle.rr_flat.proofs.Lists.{all_index}
use Rattle.rr_flat.specs.Signals.{Text}
use Rattle.rr_flatten.proofs.HeadOf.{all_append as both, all_weaker}
use Rattle.rr_instance.specs.Firsts.{first_token}
use Rattle.rr_choice.specs.Sites as sites
use Rattle.rr_choice.specs.Sites.{Site}
use Rattle.rr_change_places.specs.Spots.{Spot, Body, Test, Value, is_clocked, spots_of_item}
use Rattle.rr_literal.specs.Literals.{is_known, literal_at}
use Rattle.rr_guard.specs.Guards.{guard_of}
use Rattle.rr_guard.specs.Names.{net_name, unless_words, wordless_name, scalars_if, port_scalars, item_scalars, scalars, firsts, guard_names, may_guard, is_before, first_names, texts_of, names_at}
use Rattle.rr_overwrite.specs.Overwrites.{is_in, is_reg, port_sets, item_sets, is_variable, may_overwrite, targets_of, overwrite_of, overwrites_of}
use Rattle.rr_sites_listed.specs.Listing.{module_at, scope_of, sites_at, item_sites, module_sites, place_sites, sites_of, no_module}
use Rattle.rr_respell.specs.Laws.{IsNamed}
use Rattle.rr_sites_ordered.proofs.Members.{all_filter, all_take, all_map, all_flat, all_every, all_firsts}
use Rattle.rr_sites_written.proofs.Words.{Each, IsWritten, PortWritten, ItemWritten, ModuleWritten, source_written, text_allowed}
use Rattle.rr_sites_written.specs.Laws.{NamesAreWritten}

-- guards

if_scalars : (range : Option Range) (names : List Identifier) → AllByRecursion IsWritten names → AllByRecursion IsWritten (scalars_if range names)
if_scalars None names h = h
if_scalars (Some r) names h = tt

one_wordless : (o : Option Range) (x : Identifier) (rest : List Identifier) → IsWritten x → AllByRecursion IsWritten rest → AllByRecursion IsWritten (unless_words o x ++ rest)
one_wordless None x rest w h = (w, h)
one_wordless (Some r) x rest w h = h

wordless_written : (list : List DeclaredName) → AllByRecursion IsWritten (map net_name list) → AllByRecursion IsWritten (flat_map wordless_name list)
wordless_written [] h = tt
wordless_written (x ∷ list) h = one_wordless x.words (net_name x) (flat_map wordless_name list) h.0 (wordless_written list h.1)

item_scalars_written : (x : ModuleItem) → ItemWritten x → AllByRecursion IsWritten (item_scalars x)
unfolding item_scalars
item_scalars_written (Ports p) h = if_scalars p.range _ h
item_scalars_written (Nets signed range list) h = if_scalars range _ h
item_scalars_written (Variables signed range list) h = if_scalars range _ (wordless_written list h)
item_scalars_written (Integers list) h = tt
item_scalars_written (Parameters p) h = tt
item_scalars_written (Assigns pairs) h = tt
item_scalars_written (Always events body token) h = tt
item_scalars_written (Initial body token) h = tt
item_scalars_written (Instances m token overrides list) h = tt

module _ (m : ModuleDeclaration) (h : ModuleWritten m) where
  scalars_written : AllByRecursion IsWritten (scalars m)
  unfolding scalars
  scalars_written =
      both IsWritten (flat_map port_scalars m.groups) (flat_map item_scalars m.items)
      (all_flat IsWritten port_scalars m.groups (all_weaker PortWritten (λ p. AllByRecursion IsWritten (port_scalars p)) m.groups (λ p q. if_scalars p.range (map net_name p.names) q) h.groups))
      (all_flat IsWritten item_scalars m.items (all_weaker ItemWritten (λ x. AllByRecursion IsWritten (item_scalars x)) m.items item_scalars_written h.items))

  guards_written : (clocks : List Text) (clocked : Bool) → AllByRecursion IsWritten (guard_names m clocks clocked)
  unfolding guard_names
  guards_written clocks clocked =
      all_weaker (λ x. IsWritten x × (may_guard m clocks clocked x.text ≡ true)) IsWritten _ (λ x p. p.0)
      (all_filter IsWritten (λ (x : Identifier). may_guard m clocks clocked x.text) (firsts (scalars m)) (all_firsts IsWritten (scalars m) scalars_written))

  names_written : (clocks : List Text) (clocked : Bool) (token : ℕ) → AllByRecursion IsNameText (names_at m clocks clocked token)
  unfolding first_names
  names_written clocks clocked token =
      all_take IsNameText 64 (texts_of (filter (is_before token) (guard_names m clocks clocked)))
      (all_map IsNameText (λ (x : Identifier). x.text) (filter (is_before token) (guard_names m clocks clocked))
      (all_weaker (λ x. IsWritten x × (is_before token x ≡ true)) IsWritten _ (λ x p. p.0) (all_filter IsWritten (is_before token) (guard_names m clocks clocked) (guards_written clocks clocked))))

  -- targets

  any_of : {X G : Type 0} (P : X → Type 0) (test : X → Bool) (xs : List X) → AllByRecursion P xs → ((x : X) → P x → test x ≡ true → G) → list_any test xs ≡ true → G
  any_of P test [] h k e = absurd (false≢true e)
  any_of {X} {G} P test (x ∷ xs) h k e = by (test x) refl (any_of P test xs h.1 k) e
    where
      by : (b : Bool) → test x ≡ b → (list_any test xs ≡ true → G) → (b || list_any test xs) ≡ true → G
      by true t r f = k x h.0 t
      by false t r f = r f

  in_written : (name : Text) (list : List Identifier) → AllByRecursion IsWritten list → is_in name list ≡ true → IsNameText name
  in_written name list w e = any_of IsWritten (λ (x : Identifier). bytes_eq name x.text) list w (λ x p t. subst IsNameText (sym ((bytes_eq-Decides name x.text).0 t)) p) e

  port_set_written : (name : Text) (p : PortDeclaration) → PortWritten p → port_sets name p ≡ true → IsNameText name
  port_set_written name p w e = in_written name (map net_name p.names) w (and_parts (is_reg p.dir) (is_in name (map net_name p.names)) e).1

  item_set_written : (name : Text) (x : ModuleItem) → ItemWritten x → item_sets name x ≡ true → IsNameText name
  unfolding item_sets
  item_set_written name (Ports p) w e = port_set_written name p w e
  item_set_written name (Nets signed range list) w e = absurd (false≢true e)
  item_set_written name (Variables signed range list) w e = in_written name (flat_map wordless_name list) (wordless_written list w) e
  item_set_written name (Integers list) w e = absurd (false≢true e)
  item_set_written name (Parameters p) w e = absurd (false≢true e)
  item_set_written name (Assigns pairs) w e = absurd (false≢true e)
  item_set_written name (Always events body token) w e = absurd (false≢true e)
  item_set_written name (Initial body token) w e = absurd (false≢true e)
  item_set_written name (Instances n token overrides list) w e = absurd (false≢true e)

  variable_written : (name : Text) → is_variable m name ≡ true → IsNameText name
  variable_written name e = by (list_any (port_sets name) m.groups) refl e
    where
      by : (b : Bool) → list_any (port_sets name) m.groups ≡ b → (b || list_any (item_sets name) m.items) ≡ true → IsNameText name
      by true t f = any_of PortWritten (port_sets name) m.groups h.groups (port_set_written name) t
      by false t f = any_of ItemWritten (item_sets name) m.items h.items (item_set_written name) f

  -- sites

  abbrev Named : Site → Type 0
  Named s = IsNamed s.kind

  all_names : (names : List Text) → AllByRecursion IsNameText names → All IsNameText names
  all_names names w i d l = all_index IsNameText names i d w l

  overwrites_named : (owner : ℕ) (scope : Names) (names : ℕ → List Text) → ((token : ℕ) → AllByRecursion IsNameText (names token)) → (spot : Spot) → AllByRecursion Named (overwrites_of m owner scope names spot)
  overwrites_named owner scope names w (Body s) =
      all_map Named (overwrite_of owner scope (names (first_token s)) s) (filter (may_overwrite m) (targets_of s))
      (all_weaker (λ t. Unit {0} × (may_overwrite m t ≡ true)) (λ t. Named (overwrite_of owner scope (names (first_token s)) s t)) (filter (may_overwrite m) (targets_of s))
      (λ t p. (all_names (names (first_token s)) (w (first_token s)), variable_written t.text (and_parts (is_variable m t.text) _ p.1).0))
      (all_filter (λ t. Unit {0}) (may_overwrite m) (targets_of s) (all_every (λ t. Unit {0}) (targets_of s) (λ t. tt))))
  overwrites_named owner scope names w (Test t) = tt
  overwrites_named owner scope names w (Value token n) = tt

  guard_named : (owner : ℕ) (names : ℕ → List Text) → ((token : ℕ) → AllByRecursion IsNameText (names token)) → (spot : Spot) → AllByRecursion Named (guard_of owner names spot)
  guard_named owner names w (Body s) = tt
  guard_named owner names w (Test t) = (all_names (names _) (w _), tt)
  guard_named owner names w (Value token n) = tt

  literal_named : (spot : Spot) → AllByRecursion Named (literal_at spot)
  literal_named (Body s) = tt
  literal_named (Test t) = tt
  literal_named (Value token n) = by (is_known n)
    where
      by : (b : Bool) → AllByRecursion Named (if b then (record { kind = sites.Literal n.width n.signed; token = token }) ∷ [] else [])
      by true = (tt, tt)
      by false = tt

  spot_named : (owner : ℕ) (scope : Names) (clocks : List Text) (clocked : Bool) (spot : Spot) → AllByRecursion Named (sites_at m owner scope clocks clocked spot)
  spot_named owner scope clocks clocked spot =
      let names = names_at m clocks clocked in
      both Named (overwrites_of m owner scope names spot) (guard_of owner names spot ++ literal_at spot) (overwrites_named owner scope names (names_written clocks clocked) spot)
      (both Named (guard_of owner names spot) (literal_at spot) (guard_named owner names (names_written clocks clocked) spot) (literal_named spot))

  module_named : (owner : ℕ) (scope : Names) (clocks : List Text) → AllByRecursion Named (module_sites m owner scope clocks)
  unfolding module_sites
  module_named owner scope clocks =
      all_flat Named (item_sites m owner scope clocks) m.items
      (all_every (λ x. AllByRecursion Named (item_sites m owner scope clocks x)) m.items
      (λ x. all_flat Named (sites_at m owner scope clocks (is_clocked x)) (spots_of_item x)
      (all_every (λ spot. AllByRecursion Named (sites_at m owner scope clocks (is_clocked x) spot)) (spots_of_item x) (spot_named owner scope clocks (is_clocked x)))))

no_module_written : ModuleWritten no_module
no_module_written = record { groups = tt; items = tt }

module_at_written : (ms : List ModuleDeclaration) (k : ℕ) → AllByRecursion ModuleWritten ms → ModuleWritten (module_at ms k)
module_at_written [] k h = no_module_written
module_at_written (m ∷ ms) zero h = h.0
module_at_written (m ∷ ms) (suc k) h = module_at_written ms k h.1

pub names_are_written : NamesAreWritten
unfolding sites_of
names_are_written bytes ts source are spells scopes owners places =
    let w = source_written source spells.well (subst Each (sym spells.spelled) (text_allowed bytes ts are)) in
    let each = all_flat (λ (s : Site). IsNamed s.kind) (place_sites source scopes owners) places
    (all_every (λ p. AllByRecursion (λ (s : Site). IsNamed s.kind) (place_sites source scopes owners p)) places
    (λ p. module_named (module_at source.modules p.owner) (module_at_written source.modules p.owner w) p.owner (scope_of scopes owners p.owner) p.clocks)) in
    λ i d l. all_index (λ (s : Site). IsNamed s.kind) (sites_of source scopes owners places) i d each l
