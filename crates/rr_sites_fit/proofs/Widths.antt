-- A variable that may be overwritten has one width in all instances of its module.
use Rattle.std.proofs.Common.{◌≡◌, inl, inr, ℕ, zero, suc, ◌-◌, ◌<◌, Bool, true, false, not, ◌&&◌, if◌then◌else◌, List, [], ◌∷◌, ◌++◌, length, map, flat_map, Option, Some, None, refl, sym, subst, ap, ap₂, ◌∙◌, arith, length-append, nat_lt, nat_eq}
use Rattle.std.specs.Prelude.{slice_index_or}
use Rattle.std.specs.List.{AllByRecursion, list_any}
use Rattle.std.specs.Str.{bytes_eq}
use Rattle.std.proofs.lemmas.Bool.{and_parts, or_cases, both_ways, not-true, eqb-true, eq-eqb, lt-ltb, ltb-false}
use Rattle.std.proofs.lemmas.Slice.Eq.{bytes_eq-Decides}
use Rattle.rr_syntax.specs.Tree.{Tree, Identifier, Range, PortDeclaration, ModuleItem, Ports, Nets, Variables, Integers, Parameters, Assigns, Always, Initial, Instances, ModuleDeclaration}
use Rattle.rr_expr.specs.Faults.{is_width, first}
use Rattle.rr_expr.specs.Reading.{Occurs}
use Rattle.rr_expr.specs.Scopes.{Names, meant, entity_shape, range_width}
use Rattle.rr_expr.specs.Values.{form, value, own, nowhere}
use Rattle.rr_expr.proofs.NamesAlone.{shape_by_names, value_by_names, fault_by_names}
use Rattle.rr_guard.specs.Names.{net_name, wordless_name}
use Rattle.rr_overwrite.specs.Overwrites.{is_reg, Target, targets_of, is_open, is_in, port_opens, item_opens, port_sets, item_sets, is_variable, may_overwrite, width_in}
use Rattle.rr_flat.specs.Faults.{answer_of}
use Rattle.rr_flat.specs.Signals.{Text}
use Rattle.rr_declarations.specs.Values.{constant, between, range_in}
use Rattle.rr_flat.specs.Plain.{Flat}
use Rattle.rr_flat.specs.Reads.{names_in}
use Rattle.rr_flat.specs.Targets.{is_memory}
use Rattle.rr_flatten.specs.Walk.{module_at}
use Rattle.rr_flat.specs.Writers.{scope_at}
use Rattle.rr_flatten.proofs.HeadOf.{ok_is}
use Rattle.rr_flat_instance.specs.Places.{owner_at, HasWidth}
use Rattle.rr_lawful_instance.proofs.Trees.{OfText, at_occurrence}
use Rattle.rr_sites_listed.specs.Listing.{scope_of}
use Rattle.rr_declared_ranges.specs.Ranges.{IsSet, IsMade, IsBy, AreBy, ItemBy, AllBy}
use Rattle.rr_sites_fit.proofs.Known.{HasWidths}
use Rattle.rr_sites_ordered.proofs.Members.{all_every}
use Rattle.rr_declared_ranges.proofs.Scalars.{scope_by}
use Rattle.rr_sites_fit.proofs.Tests.{none_in, some_in}
use Rattle.rr_sites_fit.proofs.Wordless.{wordless_by}
use Rattle.rr_declared_ranges.proofs.Tops.{Headed}

-- Ranges without names

abbrev Nothing : Text → Type 0
Nothing name = ⊥

no_names : (xs : List Identifier) → length xs ≡ 0 → AllByRecursion (OfText Nothing) xs
no_names [] e = tt
no_names (x ∷ xs) e = absurd (omega (arith, e))

constant_same : (s u : Names) (t : Tree) → ((name : List ℕ) → Occurs t name → ⊥) → constant s t ≡ constant u t
unfolding constant
constant_same s u t h =
    let a : (name : List ℕ) → Occurs t name → meant s name ≡ meant u name = λ name o. absurd (h name o) in
    let f = shape_by_names s u t a in
    let v : own s t nowhere ≡ own u t nowhere = value_by_names s u t a nowhere (form s t).width (form s t).signed ∙ ap (λ x. value u t nowhere x.width x.signed) f in
    ap₂ answer_of (fault_by_names s u t a true) (ap₂ (λ (x : List Bool) (y : Bool). (x, y)) v (ap (λ x. x.signed) f))

range_same : (s u : Names) (o : Option Range) → is_open o ≡ false → range_in s o ≡ range_in u o
unfolding range_in
range_same s u None h = refl
range_same s u (Some r) h =
    let n : length (names_in r.left ++ names_in r.right) ≡ 0 = by (nat_eq (length (names_in r.left ++ names_in r.right)) 0) refl h in
    let long = length-append (names_in r.left) (names_in r.right) in
    let a = constant_same s u r.left (at_occurrence Nothing r.left (no_names (names_in r.left) (omega (arith, n, long)))) in
    let b = constant_same s u r.right (at_occurrence Nothing r.right (no_names (names_in r.right) (omega (arith, n, long)))) in
    ap₂ (between (first r.left - 1)) a b
  where
    by : (b : Bool) → nat_eq (length (names_in r.left ++ names_in r.right)) 0 ≡ b → not b ≡ false → length (names_in r.left ++ names_in r.right) ≡ 0
    by true e h = eqb-true (length (names_in r.left ++ names_in r.right)) 0 e
    by false e h = absurd (both_ways true h refl)

-- Widths

pub positive : (r : Option (ℕ × ℕ)) → 0 < range_width r
positive None = omega arith
positive (Some r) = omega arith

pub width_fits : (w : ℕ) → 0 < w → nat_lt 128 w ≡ false → is_width w ≡ true
width_fits w p n =
    let h = ltb-false 128 w n in
    let q : w < 129 = omega (arith, h) in
    ap₂ (λ x y. x && y) (lt-ltb 0 w p) (lt-ltb w 129 q)

set_width : (a b : Names) (name : Text) (r : Option (ℕ × ℕ)) → IsSet a name r → IsSet b name r → HasWidth a name (width_in b name)
set_width a b name r s u =
    let w : width_in b name ≡ range_width r = ap (λ e. (entity_shape e).width) u.means in
    record { shape = ap (λ e. (entity_shape e).width) s.means ∙ sym w; width = ap is_width w ∙ width_fits (range_width r) (positive r) u.narrow; single = ap is_memory s.means }

module _ (a b seen other : Names) (name : Text) where
  abbrev Goal : Type 0
  Goal = HasWidth a name (width_in b name)

  by_set : (o : Option Range) → is_open o ≡ false → IsBy (IsMade a) seen o name → IsBy (IsMade b) other o name → Goal
  by_set o c (r, (e, s)) (q, (f, u)) =
      let same : r ≡ q = ok_is r q (sym e ∙ (range_same seen other o c ∙ f)) in
      set_width a b name q (subst (IsSet a name) same s) u

  by_list : (o : Option Range) (list : List Identifier) → is_open o ≡ false → AreBy (IsMade a) seen o list → AreBy (IsMade b) other o list → is_in name list ≡ true → Goal
  by_list o list c s u h = some_in Goal (λ (x : Identifier). bytes_eq name x.text) list h (each list s u)
    where
      each : (list : List Identifier) → AreBy (IsMade a) seen o list → AreBy (IsMade b) other o list → AllByRecursion (λ (x : Identifier). bytes_eq name x.text ≡ true → Goal) list
      each [] s u = tt
      each (x ∷ xs) s u = (
        λ e. let is : x.text ≡ name = sym ((bytes_eq-Decides name x.text).0 e) in by_set o c (subst (IsBy (IsMade a) seen o) is s.0) (subst (IsBy (IsMade b) other o) is u.0),
        each xs s.1 u.1,
      )

  -- a declaration that does not open the range of a name among its own
  closed : (o : Option Range) (list : List Identifier) → (is_open o && is_in name list) ≡ false → is_in name list ≡ true → is_open o ≡ false
  closed o list h i = by (is_open o) refl h
    where
      by : (c : Bool) → is_open o ≡ c → (c && is_in name list) ≡ false → is_open o ≡ false
      by true e h = absurd (both_ways (is_in name list) h i)
      by false e h = e

  by_ports : (p : PortDeclaration) → AreBy (IsMade a) seen p.range (map net_name p.names) → AreBy (IsMade b) other p.range (map net_name p.names) → port_opens name p ≡ false → port_sets name p ≡ true → Goal
  by_ports p s u o h = let i = (and_parts (is_reg p.dir) (is_in name (map net_name p.names)) h).1 in by_list p.range (map net_name p.names) (closed p.range (map net_name p.names) o i) s u i

  by_item : (x : ModuleItem) → ItemBy (IsMade a) seen x → ItemBy (IsMade b) other x → item_opens name x ≡ false → item_sets name x ≡ true → Goal
  unfolding item_opens item_sets
  by_item (Ports p) s u o h = by_ports p s u o h
  by_item (Nets signed range list) s u o h = absurd (both_ways false refl h)
  by_item (Variables signed range list) s u o h =
      let names = flat_map wordless_name list in by_list range names (closed range names o h) (wordless_by (IsMade a) seen range list s) (wordless_by (IsMade b) other range list u) h
  by_item (Integers list) s u o h = absurd (both_ways false refl h)
  by_item (Parameters p) s u o h = absurd (both_ways false refl h)
  by_item (Assigns pairs) s u o h = absurd (both_ways false refl h)
  by_item (Always events body token) s u o h = absurd (both_ways false refl h)
  by_item (Initial body token) s u o h = absurd (both_ways false refl h)
  by_item (Instances m token overrides list) s u o h = absurd (both_ways false refl h)

  all_ports : (ps : List PortDeclaration) → AllByRecursion (λ p. AreBy (IsMade a) seen p.range (map net_name p.names)) ps → AllByRecursion (λ p. AreBy (IsMade b) other p.range (map net_name p.names)) ps → AllByRecursion (λ p. port_opens name p ≡ false) ps →
      AllByRecursion (λ p. port_sets name p ≡ true → Goal) ps
  all_ports [] s u o = tt
  all_ports (p ∷ ps) s u o = (by_ports p s.0 u.0 o.0, all_ports ps s.1 u.1 o.1)

  all_items : (xs : List ModuleItem) → AllByRecursion (ItemBy (IsMade a) seen) xs → AllByRecursion (ItemBy (IsMade b) other) xs → AllByRecursion (λ x. item_opens name x ≡ false) xs → AllByRecursion (λ x. item_sets name x ≡ true → Goal) xs
  all_items [] s u o = tt
  all_items (x ∷ xs) s u o = (by_item x s.0 u.0 o.0, all_items xs s.1 u.1 o.1)

  by_module : (m : ModuleDeclaration) → AllBy (IsMade a) seen m → AllBy (IsMade b) other m → is_variable m name ≡ true → list_any (port_opens name) m.groups ≡ false → list_any (item_opens name) m.items ≡ false → Goal
  by_module m s u v g i = elim (or_cases (list_any (port_sets name) m.groups) (list_any (item_sets name) m.items) v) [
    | inl h ↦ some_in Goal (port_sets name) m.groups h (all_ports m.groups s.groups u.groups (none_in (port_opens name) m.groups g))
    | inr h ↦ some_in Goal (item_sets name) m.items h (all_items m.items s.items u.items (none_in (item_opens name) m.items i))
  ]

-- the first instance of a module
pub first_scope : (scopes : List Names) (owners : List ℕ) (k i : ℕ) → length owners ≡ length scopes → i < length scopes → slice_index_or owners i 0 ≡ k →
    (j : ℕ) × ((j < length scopes) × ((slice_index_or owners j 0 ≡ k) × (scope_of scopes owners k ≡ slice_index_or scopes j [])))
unfolding scope_of
first_scope [] owners k i e l o = absurd (omega (arith, l))
first_scope (s ∷ ss) [] k i e l o = absurd (omega (arith, e))
first_scope (s ∷ ss) (w ∷ ws) k i e l o = by (nat_eq w k) refl i l o (λ i l o. first_scope ss ws k i (omega (arith, e)) l o)
  where
    by : (b : Bool) → nat_eq w k ≡ b → (i : ℕ) → i < length (s ∷ ss) → slice_index_or (w ∷ ws) i 0 ≡ k →
        ((i : ℕ) → i < length ss → slice_index_or ws i 0 ≡ k → (j : ℕ) × ((j < length ss) × ((slice_index_or ws j 0 ≡ k) × (scope_of ss ws k ≡ slice_index_or ss j [])))) →
        (j : ℕ) × ((j < length (s ∷ ss)) × ((slice_index_or (w ∷ ws) j 0 ≡ k) × ((if b then s else scope_of ss ws k) ≡ slice_index_or (s ∷ ss) j [])))
    by true q i l o r = (0, (omega arith, (eqb-true w k q, refl)))
    by false q zero l o r = absurd (both_ways (nat_eq w k) q (eq-eqb w k o))
    by false q (suc i) l o r = let f = r i (omega (arith, l)) o in let m = f.1.0 in (suc f.0, (omega (arith, m), f.1.1))

module _ (ms : List ModuleDeclaration) (flat : Flat) (h : Headed ms flat.scopes flat.owners flat.signals) (i : ℕ) (l : i < length flat.scopes) where
  abbrev k : ℕ
  k = owner_at flat i

  abbrev m : ModuleDeclaration
  m = module_at ms k

  one_width : (t : Target) → may_overwrite m t ≡ true → HasWidth (scope_at flat i) t.text (width_in (scope_of flat.scopes flat.owners k) t.text)
  one_width t f =
      let j = first_scope flat.scopes flat.owners k i h.even l refl in
      let s = scope_by ms flat h i l in
      let u = scope_by ms flat h j.0 j.1.0 in
      let other : AllBy (IsMade (scope_at flat j.0)) u.0 m = subst (λ k. AllBy (IsMade (scope_at flat j.0)) u.0 (module_at ms k)) j.1.1.0 u.1 in
      let p = and_parts (is_variable m t.text) (not (list_any (port_opens t.text) m.groups) && not (list_any (item_opens t.text) m.items)) f in
      let q = and_parts (not (list_any (port_opens t.text) m.groups)) (not (list_any (item_opens t.text) m.items)) p.1 in
      let w = by_module (scope_at flat i) (scope_at flat j.0) s.0 u.0 t.text m s.1 other p.0 (not-true (list_any (port_opens t.text) m.groups) q.0) (not-true (list_any (item_opens t.text) m.items) q.1) in
      subst (λ n. HasWidth (scope_at flat i) t.text (width_in n t.text)) (sym j.1.1.1) w

pub has_widths : (ms : List ModuleDeclaration) (flat : Flat) → Headed ms flat.scopes flat.owners flat.signals → HasWidths ms flat
has_widths ms flat h i l events body at c =
    all_every (λ (t : Target). may_overwrite (module_at ms (owner_at flat i)) t ≡ true → HasWidth (scope_at flat i) t.text (width_in (scope_of flat.scopes flat.owners (owner_at flat i)) t.text)) (targets_of body)
    (one_width ms flat h i l)
