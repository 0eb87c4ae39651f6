-- Sites that are listed fit the flat design.
use Rattle.std.proofs.Common.{◌≡◌, ap, sym, subst, false, ◌⊎◌, inl, inr, ℕ, zero, suc, ◌+◌, ◌<◌, ◌≤◌, List, [], ◌∷◌, length, Option, Some, None, refl, arith}
use Rattle.std.specs.List.{All, AllByRecursion, Contains}
use Rattle.std.proofs.lemmas.Bool.{cases_lt, cases_order}
use Rattle.rr_syntax.specs.Items.{spell_all, spell_range, spell_type, spell_declarator, spell_item, spell_parameters, spell_ports, spell_module, WellFormedValue, WellFormedDeclarator, WellFormedItem, WellFormedModule, WellFormedSource, NumberedEach, NumberedSeparated, NumberedAll, NumberedValue, NumberedDeclarator, NumberedItem, NumberedModule, NumberedSource}
use Rattle.rr_syntax.specs.Tree.{Tree, DeclaredName, ModuleItem, Ports, Nets, Variables, Integers, Parameters, Assigns, Always, Initial, Instances, ModuleDeclaration, SourceText}
use Rattle.rr_expr.specs.Faults.{first}
use Rattle.rr_expr.specs.Scopes.{Names}
use Rattle.rr_flat.specs.Lawful.{DriverTarget}
use Rattle.rr_flat.specs.Plain.{Side, Written, Whole, Flat}
use Rattle.rr_flatten.specs.Walk.{module_at}
use Rattle.rr_flat.specs.Writers.{scope_at, driver_at}
use Rattle.rr_choice.specs.Sites as sites
use Rattle.rr_choice.specs.Sites.{SiteKind, Site, guard_names}
use Rattle.rr_instance_laws.specs.Truth.{IsScalar}
use Rattle.rr_instance_laws.proofs.FirstLaws.{first_is}
use Rattle.rr_loop_rules.specs.Rules.{LoopNames, contains, loop_names}
use Rattle.rr_flat_instance.specs.Owned.{start_of, IsWithin, IsFree, IsDeclared, KindFits, SiteFits, AreListed}
use Rattle.rr_flat_instance.specs.Places.{HasWidth, IsNameOfItem, IsAimOfItem, NamesStayOfItem, FitsItem, FitsModule, IsApart, NetsApartIn, NetsApart, MayBeDriven, owner_at, SitesFit}
use Rattle.rr_flat_instance.proofs.Spans as span
use Rattle.rr_flat_instance.proofs.Standing.{names_apart}
use Rattle.rr_flat_instance.proofs.Windows.{Brings, item_name, item_aim}

-- modules have tokens of their own

follows : (ms : List ModuleDeclaration) (k l : ℕ) → k < l → k < length ms → start_of ms k + length (spell_module (module_at ms k)) ≤ start_of ms l
unfolding start_of
follows [] k l h i = absurd (omega arith)
follows (m ∷ ms) zero zero h i = absurd (omega arith)
follows (m ∷ ms) zero (suc l) h i = omega arith
follows (m ∷ ms) (suc k) zero h i = absurd (omega arith)
follows (m ∷ ms) (suc k) (suc l) h i = let e = follows ms k l (omega arith) (omega arith) in omega (arith, e)

pub one_module : (ms : List ModuleDeclaration) (k l token : ℕ) → k < length ms → IsWithin ms l token → start_of ms k ≤ token → token < start_of ms k + length (spell_module (module_at ms k)) → k ≡ l
one_module ms k l token there w low high = by_order (cases_order k l)
  where
    by_order : ((k ≡ l) ⊎ ((k < l) ⊎ (l < k))) → k ≡ l
    by_order (inl e) = e
    by_order (inr (inl h)) = let f = follows ms k l h there in let a = w.after in absurd (omega (arith, f, a))
    by_order (inr (inr h)) = let f = follows ms l k h (omega arith) in let a = w.before in absurd (omega (arith, f, a))

-- what a site brings, in the scope of an instance

-- a scalar that names no loop, and such a target
abbrev IsFreeScalar : LoopNames → Names → List ℕ → Type 0
IsFreeScalar loops names name = IsScalar names name × (contains loops name ≡ false)

abbrev HasFreeWidth : LoopNames → Names → List ℕ → ℕ → Type 0
HasFreeWidth loops names target w = HasWidth names target w × (contains loops target ≡ false)

-- the names of the loops of an instance's module
abbrev loops_of : SourceText → Flat → ℕ → LoopNames
loops_of source flat i = loop_names (module_at source.modules (owner_at flat i))

no_name : (name : List ℕ) → Contains [] name → ⊥
no_name name c = omega (arith, c.1)

aimed : (loops : LoopNames) (names : Names) (text target : List ℕ) (width w : ℕ) → (text ≡ target) × (width ≡ w) → HasFreeWidth loops names text width → HasFreeWidth loops names target w
aimed loops names text target width w e h = rw (← e.0, ← e.1) h

named : (P : List ℕ → Type 0) (names : List (List ℕ)) (name : List ℕ) → All P names → Contains names name → P name
named P names name h c = rw c.2 at (h c.0 name c.1)

module _ (source : SourceText) (flat : Flat) (i : ℕ) (there : i < length flat.scopes) (inside : owner_at flat i < length source.modules) where
  declared_name : (owner token : ℕ) (names : List (List ℕ)) (name : List ℕ) → IsDeclared source flat owner token names → Contains names name
      → start_of source.modules (owner_at flat i) ≤ token → token < start_of source.modules (owner_at flat i) + length (spell_module (module_at source.modules (owner_at flat i))) → IsFreeScalar (loops_of source flat i) (scope_at flat i) name
  declared_name owner token names name d c low high =
      let o = one_module source.modules (owner_at flat i) owner token inside d.within low high in
      (named (IsScalar (scope_at flat i)) names name (d.scalars i there o) c, subst (λ (k : ℕ). IsFree source.modules k name) (sym o) (named (IsFree source.modules owner) names name (d.free i there o) c))

  -- what an overwrite assigns
  declared_aim : (owner : ℕ) (target : List ℕ) (w : ℕ) → owner_at flat i ≡ owner → HasWidth (scope_at flat i) target w × IsFree source.modules owner target → HasFreeWidth (loops_of source flat i) (scope_at flat i) target w
  declared_aim owner target w o h = (h.0, subst (λ (k : ℕ). IsFree source.modules k target) (sym o) h.1)

  later : (owner token : ℕ) → IsWithin source.modules owner token → 0 < token
  later owner token w = let a = w.after in omega arith

  site_brings : (s : Site) → SiteFits source flat s
      → Brings (start_of source.modules (owner_at flat i)) (start_of source.modules (owner_at flat i) + length (spell_module (module_at source.modules (owner_at flat i)))) (IsFreeScalar (loops_of source flat i) (scope_at flat i)) (HasFreeWidth (loops_of source flat i) (scope_at flat i)) s
  site_brings s h = by_kind s.kind refl h
    where
      by_kind : (k : SiteKind) → s.kind ≡ k → KindFits source flat s.token k
          → Brings (start_of source.modules (owner_at flat i)) (start_of source.modules (owner_at flat i) + length (spell_module (module_at source.modules (owner_at flat i)))) (IsFreeScalar (loops_of source flat i) (scope_at flat i)) (HasFreeWidth (loops_of source flat i) (scope_at flat i)) s
      by_kind (sites.Literal width signed) e f = record {
        name_later = λ name c. absurd (no_name name (rw e at c));
        names = λ name c l h. absurd (no_name name (rw e at c));
        aim_later = λ target w a. absurd (rw e at a);
        aims = λ target w a l h. absurd (rw e at a);
      }
      by_kind (sites.Guard owner extent names) e f = record {
        name_later = λ name c. later owner s.token f.within;
        names = λ name c l h. declared_name owner s.token names name f (rw e at c) l h;
        aim_later = λ target w a. absurd (rw e at a);
        aims = λ target w a l h. absurd (rw e at a);
      }
      by_kind (sites.Overwrite owner text width now names) e f = record {
        name_later = λ name c. later owner s.token f.0.within;
        names = λ name c l h. declared_name owner s.token names name f.0 (rw e at c) l h;
        aim_later = λ target w a. later owner s.token f.0.within;
        aims = λ target w a l h.
            let o = one_module source.modules (owner_at flat i) owner s.token inside f.0.within l h in
            aimed (loops_of source flat i) (scope_at flat i) text target width w (rw e at a) (declared_aim owner text width o (f.1 i there o));
      }

-- the items of a module

module _ (ss : List Site) (low high : ℕ) (loops : LoopNames) (names : Names) (b : AllByRecursion (Brings low high (IsFreeScalar loops names) (HasFreeWidth loops names)) ss) where
  items_fit : (xs : List ModuleItem) (at : ℕ) → AllByRecursion WellFormedItem xs → NumberedAll spell_item NumberedItem xs at → AllByRecursion (NamesStayOfItem ss) xs → low ≤ at → at + length (spell_all spell_item xs) ≤ high
      → AllByRecursion (FitsItem ss loops names) xs
  unfolding NumberedAll
  items_fit [] at w n a l h = tt
  items_fit (x ∷ xs) at w n a l h =
      let e = span.long-all spell_item x xs in
      let called : (name : List ℕ) → IsNameOfItem ss name x → IsFreeScalar loops names name =
      λ name. item_name ss low high (IsFreeScalar loops names) (HasFreeWidth loops names) b name x at w.0 n.0 l (omega (arith, e, h)) in
      let aims : (target : List ℕ) (k : ℕ) → IsAimOfItem ss target k x → HasFreeWidth loops names target k =
      λ target k. item_aim ss low high (IsFreeScalar loops names) (HasFreeWidth loops names) b target k x at w.0 n.0 l (omega (arith, e, h)) in (
        record {
          guards = λ name g. (called name g).0;
          aims = λ target k g. (aims target k g).0;
          free_guards = λ name g. (called name g).1;
          free_aims = λ target k g. (aims target k g).1;
          stays = a.0;
        },
        items_fit xs (at + length (spell_item x)) w.1 n.1 a.1 (omega arith) (omega (arith, e, h)),
      )

  module_fits : (ms : List ModuleDeclaration) (k at : ℕ) → AllByRecursion WellFormedModule ms → NumberedAll spell_module NumberedModule ms at
      → AllByRecursion (λ (m : ModuleDeclaration). AllByRecursion (NamesStayOfItem ss) m.items) ms → low ≤ at + start_of ms k
      → at + start_of ms k + length (spell_module (module_at ms k)) ≤ high → AllByRecursion (FitsItem ss loops names) (module_at ms k).items
  unfolding NumberedAll NumberedModule WellFormedModule start_of
  module_fits [] k at w n a l h = tt
  module_fits (m ∷ ms) zero at w n a l h =
      let e = span.long-module m in
      items_fit m.items (at + 2 + length (spell_parameters m.params) + length (spell_ports m.header m.groups) + 1) w.0.3 n.0.3 a.0 (omega (arith, l)) (omega (arith, e, h))
  module_fits (m ∷ ms) (suc k) at w n a l h = module_fits ms k (at + length (spell_module m)) w.1 n.1 a.1 (omega (arith, l)) (omega (arith, h))

-- nets

value_apart : (o : Option Tree) (token at : ℕ) → token < at → WellFormedValue o → NumberedValue o at → (t : Tree) → o ≡ Some t → token ≡ first t → ⊥
unfolding WellFormedValue NumberedValue
value_apart None token at e w n t q h = absurd (cc)
value_apart (Some u) token at e w n t q h =
    let s : u ≡ t = cc in let f = first_is u (at + 1) w n in let g = ap first s in omega (arith, e, f, g, h)

net_apart : (x : DeclaredName) (at : ℕ) → WellFormedDeclarator x → NumberedDeclarator x at → IsApart x
unfolding WellFormedDeclarator NumberedDeclarator
net_apart x at w n = let e = n.0 in value_apart x.value x.token (at + 1 + length (spell_range x.words)) (omega (arith, e)) w.1 n.2

nets_each : (xs : List DeclaredName) (at : ℕ) → AllByRecursion WellFormedDeclarator xs → NumberedEach spell_declarator NumberedDeclarator xs at → AllByRecursion IsApart xs
unfolding NumberedEach
nets_each [] at w n = tt
nets_each (x ∷ xs) at w n = (net_apart x (at + 1) w.0 n.0, nets_each xs (at + 1 + length (spell_declarator x)) w.1 n.1)

nets_separated : (xs : List DeclaredName) (at : ℕ) → AllByRecursion WellFormedDeclarator xs → NumberedSeparated spell_declarator NumberedDeclarator xs at → AllByRecursion IsApart xs
unfolding NumberedSeparated
nets_separated [] at w n = tt
nets_separated (x ∷ xs) at w n = (net_apart x at w.0 n.0, nets_each xs (at + length (spell_declarator x)) w.1 n.1)

item_apart : (x : ModuleItem) (at : ℕ) → WellFormedItem x → NumberedItem x at → NetsApartIn x
unfolding WellFormedItem NumberedItem NetsApartIn
item_apart (Ports p) at w n = tt
item_apart (Nets signed range list) at w n = nets_separated list (at + 1 + length (spell_type signed range)) w.2 n.1
item_apart (Variables signed range list) at w n = tt
item_apart (Integers list) at w n = tt
item_apart (Parameters p) at w n = tt
item_apart (Assigns pairs) at w n = tt
item_apart (Always events t token) at w n = tt
item_apart (Initial body token) at w n = tt
item_apart (Instances m token over list) at w n = tt

items_apart : (xs : List ModuleItem) (at : ℕ) → AllByRecursion WellFormedItem xs → NumberedAll spell_item NumberedItem xs at → AllByRecursion NetsApartIn xs
unfolding NumberedAll
items_apart [] at w n = tt
items_apart (x ∷ xs) at w n = (item_apart x at w.0 n.0, items_apart xs (at + length (spell_item x)) w.1 n.1)

modules_apart : (ms : List ModuleDeclaration) (at : ℕ) → AllByRecursion WellFormedModule ms → NumberedAll spell_module NumberedModule ms at → AllByRecursion NetsApart ms
unfolding NumberedAll NumberedModule WellFormedModule
modules_apart [] at w n = tt
modules_apart (m ∷ ms) at w n =
    (items_apart m.items (at + 2 + length (spell_parameters m.params) + length (spell_ports m.header m.groups) + 1) w.0.3 n.0.3, modules_apart ms (at + length (spell_module m)) w.1 n.1)

-- targets

may_be_driven : (flat : Flat) (target value : Side) → DriverTarget flat target value → MayBeDriven target
may_be_driven flat (Written t i) value h = h.0
may_be_driven flat (Whole id) value h = tt

-- all of it

all_bring : (source : SourceText) (flat : Flat) (i : ℕ) → i < length flat.scopes → owner_at flat i < length source.modules → (ss : List Site) → AllByRecursion (SiteFits source flat) ss
    → AllByRecursion (Brings (start_of source.modules (owner_at flat i)) (start_of source.modules (owner_at flat i) + length (spell_module (module_at source.modules (owner_at flat i)))) (IsFreeScalar (loops_of source flat i) (scope_at flat i)) (HasFreeWidth (loops_of source flat i) (scope_at flat i))) ss
all_bring source flat i there inside [] h = tt
all_bring source flat i there inside (s ∷ ss) h = (site_brings source flat i there inside s h.0, all_bring source flat i there inside ss h.1)

no_items : (ss : List Site) (names : Names) (ms : List ModuleDeclaration) (k : ℕ) → length ms ≤ k → FitsModule ss names (module_at ms k)
no_items ss names [] k h = tt
no_items ss names (m ∷ ms) zero h = absurd (omega arith)
no_items ss names (m ∷ ms) (suc k) h = no_items ss names ms k (omega arith)

scope_fits : (ss : List Site) (source : SourceText) (flat : Flat) → AreListed ss source flat → (i : ℕ) → i < length flat.scopes → FitsModule ss (scope_at flat i) (module_at source.modules (owner_at flat i))
unfolding WellFormedSource NumberedSource
scope_fits ss source flat h i there = by_place (cases_lt (owner_at flat i) (length source.modules))
  where
    by_place : ((owner_at flat i < length source.modules) ⊎ (length source.modules ≤ owner_at flat i)) → FitsModule ss (scope_at flat i) (module_at source.modules (owner_at flat i))
    by_place (inl inside) =
        module_fits ss (start_of source.modules (owner_at flat i)) (start_of source.modules (owner_at flat i) + length (spell_module (module_at source.modules (owner_at flat i)))) (loops_of source flat i) (scope_at flat i)
        (all_bring source flat i there inside ss h.each) source.modules (owner_at flat i) 0 h.formed h.numbered (names_apart ss source flat h.numbered h.each) (omega arith) (omega arith)
    by_place (inr past) = no_items ss (scope_at flat i) source.modules (owner_at flat i) past

pub listed_sites_fit : (ss : List Site) (source : SourceText) (flat : Flat) → AreListed ss source flat → SitesFit ss source flat
unfolding WellFormedSource NumberedSource
listed_sites_fit ss source flat h = record {
  scopes = scope_fits ss source flat h;
  targets = λ k l. may_be_driven flat (driver_at flat k).target (driver_at flat k).value (h.targets.drivers k l);
  nets = modules_apart source.modules 0 h.formed h.numbered;
}
