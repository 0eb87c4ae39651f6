-- Sites as they are listed are sites of the flat design.
use Rattle.std.proofs.Common.{◌≡◌, ◌⊎◌, inl, inr, ℕ, zero, suc, ◌+◌, ◌<◌, ◌≤◌, ◌==◌, Bool, true, false, List, [], ◌∷◌, length, Option, Ok, refl, sym, subst, ap, ◌∙◌, arith}
use Rattle.std.specs.Prelude.{slice_index_or}
use Rattle.std.specs.List.{All, AllByRecursion, Contains}
use Rattle.std.proofs.lemmas.Bool.{and_parts, cases_order, eqb-true}
use Rattle.std.proofs.lemmas.List.Elements.{All-from_recursion}
use Rattle.rr_syntax.specs.Items.{spell_all, spell_events, spell_item, spell_module, WellFormedItem, NumberedItem}
use Rattle.rr_syntax.specs.Statements.{spell_statement}
use Rattle.rr_syntax.specs.Tree.{Statement, EventControl, ModuleItem, Always, ModuleDeclaration, SourceText}
use Rattle.rr_flat.specs.Signals.{Text}
use Rattle.rr_flat.specs.Plain.{Side, Written, Whole, Block, Flat}
use Rattle.rr_flatten.specs.Walk.{module_at, flat_of}
use Rattle.rr_flat.specs.Lawful.{RightTargets}
use Rattle.rr_flat.specs.Writers.{scope_at, driver_at, block_at, no_driver, no_block}
use Rattle.rr_flat.proofs.Lists.{all_index}
use Rattle.rr_flat_instance.specs.Owned.{start_of, IsWithin, IsFree, IsDeclared, KindFits, SiteFits}
use Rattle.rr_flat_instance.specs.Places.{IsNameOfItem, owner_at, SitesFit}
use Rattle.rr_flat_instance.proofs.Listed.{one_module, listed_sites_fit}
use Rattle.rr_flat_instance.proofs.Spans as span
use Rattle.rr_flat_instance.proofs.Windows.{Brings, InOrNone, always_in, item_name}
use Rattle.rr_instance.specs.Firsts.{first_token}
use Rattle.rr_choice.specs.Places.{is_overwrite, is_overwrite_at}
use Rattle.rr_choice.specs.Sites as sites
use Rattle.rr_choice.specs.Sites.{SiteKind, Site, guard_names}
use Rattle.rr_instance_laws.specs.Truth.{IsScalar}
use Rattle.rr_lawful_instance.specs.AreSites.{TargetStands, BlockFits, SideFits, AreSitesOf}
use Rattle.rr_change_places.specs.Spots.{has_edges, is_clocked}
use Rattle.rr_lawful_instance.specs.Listed.{MayGuardIf, MayGuardIn, items_of, no_item, item_at, items_before, item_start, StandsIn, TargetFits, IsRight, KindIsRight, AreRight}
use Rattle.rr_lawful_instance.proofs.Placed.{item_right, module_there, item_is}
use Rattle.rr_lawful_instance.proofs.Origins.{SideFrom, BlockFrom, From, origins}
use Rattle.rr_lawful_instance.proofs.Unfolded.{brings_same, all_still_stand, scalar_is_free}

-- Where items stand

items_inside : (xs : List ModuleItem) (n : ℕ) → n < length xs → items_before xs n + length (spell_item (slice_index_or xs n no_item)) ≤ length (spell_all spell_item xs)
unfolding items_before
items_inside [] n l = absurd (omega (arith, l))
items_inside (x ∷ xs) zero l = let e = span.long-all spell_item x xs in omega (arith, e)
items_inside (x ∷ xs) (suc n) l = let e = span.long-all spell_item x xs in let r = items_inside xs n (omega (arith, l)) in omega (arith, e, r)

item_inside : (ms : List ModuleDeclaration) (k n : ℕ) → n < length (items_of ms k) → item_start ms k n + length (spell_item (item_at ms k n)) ≤ start_of ms k + length (spell_module (module_at ms k))
item_inside ms k n l = let e = span.long-module (module_at ms k) in let r = items_inside (items_of ms k) n l in omega (arith, e, r)

-- items have tokens of their own
items_follow : (xs : List ModuleItem) (n m : ℕ) → n < m → n < length xs → items_before xs n + length (spell_item (slice_index_or xs n no_item)) ≤ items_before xs m
unfolding items_before
items_follow [] n m h l = absurd (omega (arith, l))
items_follow (x ∷ xs) zero zero h l = absurd (omega (arith, h))
items_follow (x ∷ xs) zero (suc m) h l = omega arith
items_follow (x ∷ xs) (suc n) zero h l = absurd (omega (arith, h))
items_follow (x ∷ xs) (suc n) (suc m) h l = let e = items_follow xs n m (omega (arith, h)) (omega (arith, l)) in omega (arith, e)

one_item : (ms : List ModuleDeclaration) (k n m token : ℕ) → StandsIn ms k n token → StandsIn ms k m token → n ≡ m
one_item ms k n m token a b = by_order (cases_order n m)
  where
    by_order : ((n ≡ m) ⊎ ((n < m) ⊎ (m < n))) → n ≡ m
    by_order (inl e) = e
    by_order (inr (inl h)) = let f = items_follow (items_of ms k) n m h a.there in let u = a.before in let v = b.after in absurd (omega (arith, f, u, v))
    by_order (inr (inr h)) = let f = items_follow (items_of ms k) m n h b.there in let u = b.before in let v = a.after in absurd (omega (arith, f, u, v))

-- a token of an item is one of the module, other than the first
pub stands_within : (ms : List ModuleDeclaration) (k n token : ℕ) → StandsIn ms k n token → IsWithin ms k token
stands_within ms k n token s =
    let a = s.after in let b = s.before in let e = item_inside ms k n s.there in
    record { after = omega (arith, a); before = omega (arith, b, e) }

-- What sites bring

holds_in : (P : Text → Type 0) (names : List Text) (name : Text) → All P names → Contains names name → P name
holds_in P names name h c = subst P c.2 (h c.0 name c.1)

nothing_in : (name : Text) → Contains [] name → ⊥
nothing_in name c = omega (arith, c.1)

abbrev Anything : Text → ℕ → Type 0
Anything target w = Unit {0}

module _ (source : SourceText) (flat : Flat) (word : Option Text) (i n : ℕ) (there : i < length flat.scopes) (inside : n < length (items_of source.modules (owner_at flat i))) where
  abbrev k : ℕ
  k = owner_at flat i

  abbrev low : ℕ
  low = item_start source.modules k n

  abbrev x : ModuleItem
  x = item_at source.modules k n

  abbrev high : ℕ
  high = low + length (spell_item x)

  abbrev May : Text → Type 0
  May name = MayGuardIn x flat word i name

  -- a site that stands in the item is one of its module
  owned : (owner token : ℕ) (kind : SiteKind) → IsRight source flat word owner token kind → low ≤ token → token < high → IsRight source flat word k token kind
  owned owner token kind f l h =
      let e = item_inside source.modules k n inside in
      subst (λ o. IsRight source flat word o token kind) (sym (one_module source.modules k owner token (module_there source.modules k n inside) (stands_within source.modules owner f.item token f.stands) (omega (arith, l)) (omega (arith, h, e)))) f

  names_of_site : (owner token : ℕ) (kind : SiteKind) → IsRight source flat word owner token kind → (name : Text) → Contains (guard_names kind) name → low ≤ token → token < high → May name
  names_of_site owner token kind f name c l h =
      let g = owned owner token kind f l h in
      let e = one_item source.modules k g.item n token g.stands (record { there = inside; after = l; before = h }) in
      holds_in May (guard_names kind) name (subst (λ m. All (MayGuardIn (item_at source.modules k m) flat word i) (guard_names kind)) e (g.names i there refl)) c

  later : (owner token : ℕ) (kind : SiteKind) → IsRight source flat word owner token kind → 0 < token
  later owner token kind f = let a = (stands_within source.modules owner f.item token f.stands).after in omega (arith, a)

  site_brings : (s : Site) → KindIsRight source flat word s.token s.kind → Brings low high May Anything s
  site_brings s h = by_kind s.kind refl h
    where
      by_kind : (kind : SiteKind) → s.kind ≡ kind → KindIsRight source flat word s.token kind → Brings low high May Anything s
      by_kind (sites.Literal width signed) e f = record {
        name_later = λ name c. absurd (nothing_in name (subst (λ q. Contains (guard_names q) name) e c));
        names = λ name c l h. absurd (nothing_in name (subst (λ q. Contains (guard_names q) name) e c));
        aim_later = λ target w a. absurd (rw e at a);
        aims = λ target w a l h. tt;
      }
      by_kind (sites.Guard owner extent names) e f = record {
        name_later = λ name c. later owner s.token (sites.Guard owner extent names) f;
        names = λ name c l h. names_of_site owner s.token (sites.Guard owner extent names) f name (subst (λ q. Contains (guard_names q) name) e c) l h;
        aim_later = λ target w a. absurd (rw e at a);
        aims = λ target w a l h. tt;
      }
      by_kind (sites.Overwrite owner text width now names) e f = record {
        name_later = λ name c. later owner s.token (sites.Overwrite owner text width now names) f.0;
        names = λ name c l h. names_of_site owner s.token (sites.Overwrite owner text width now names) f.0 name (subst (λ q. Contains (guard_names q) name) e c) l h;
        aim_later = λ target w a. later owner s.token (sites.Overwrite owner text width now names) f.0;
        aims = λ target w a l h. tt;
      }

  all_bring : (ss : List Site) → AllByRecursion (λ s. KindIsRight source flat word s.token s.kind) ss → AllByRecursion (Brings low high May Anything) ss
  all_bring [] h = tt
  all_bring (s ∷ ss) h = (site_brings s h.0, all_bring ss h.1)

  module _ (ss : List Site) (r : AreRight source flat word ss) where
    item_names : (name : Text) → IsNameOfItem ss name x → May name
    item_names name h =
        let w = item_right source k n r.formed r.numbered (module_there source.modules k n inside) inside in
        item_name ss low high May Anything (all_bring ss r.each) name x low w.0 w.1 (omega arith) (omega arith) h

    -- the first token of the body of an `always` stands in it
    body_in : (events : EventControl) (body : Statement) (at : ℕ) → x ≡ Always events body at → InOrNone low high (first_token body)
    unfolding WellFormedItem NumberedItem
    body_in events body at e =
        let w = item_right source k n r.formed r.numbered (module_there source.modules k n inside) inside in
        let formed : WellFormedItem (Always events body at) = subst WellFormedItem e w.0 in
        let numbered : NumberedItem (Always events body at) low = subst (λ y. NumberedItem y low) e w.1 in
        let long : length (spell_item x) ≡ 2 + length (spell_events events) + length (spell_statement body) = ap (λ y. length (spell_item y)) e ∙ span.long-Always events body at in
        always_in ss low high May Anything (all_bring ss r.each) body (low + 2 + length (spell_events events)) formed.1 numbered.2 (omega arith) (omega (arith, long))

    target_stands : (events : EventControl) (body : Statement) (at : ℕ) → x ≡ Always events body at → (s : Site) → KindIsRight source flat word s.token s.kind → is_overwrite_at (first_token body) s ≡ true → TargetStands body s.kind
    target_stands events body at e s f h = by_kind s.kind f
      where
        token_is : s.token ≡ first_token body
        token_is = eqb-true s.token (first_token body) (and_parts (is_overwrite s.kind) (s.token == first_token body) h).1

        stands : (owner : ℕ) (kind : SiteKind) → IsRight source flat word owner s.token kind → InOrNone low high (first_token body) → TargetStands body kind
        stands owner kind f (inl (l, h)) =
            let a : low ≤ s.token = omega (arith, token_is, l) in
            let b : s.token < high = omega (arith, token_is, h) in
            let g = owned owner s.token kind f a b in
            let m = one_item source.modules k g.item n s.token g.stands (record { there = inside; after = a; before = b }) in
            subst (λ y. TargetFits y kind) (ap (λ m. item_at source.modules k m) m ∙ e) g.target
        stands owner kind f (inr z) = let p = later owner s.token kind f in absurd (omega (arith, token_is, z, p))

        by_kind : (kind : SiteKind) → KindIsRight source flat word s.token kind → TargetStands body kind
        by_kind (sites.Literal width signed) f = tt
        by_kind (sites.Guard owner extent names) f = tt
        by_kind (sites.Overwrite owner text width now names) f = stands owner (sites.Overwrite owner text width now names) f.0 (body_in events body at e)

    targets_stand : (events : EventControl) (body : Statement) (at : ℕ) → x ≡ Always events body at → All (λ s. is_overwrite_at (first_token body) s ≡ true → TargetStands body s.kind) ss
    targets_stand events body at e = All-from_recursion (λ s. is_overwrite_at (first_token body) s ≡ true → TargetStands body s.kind) ss (each ss r.each)
      where
        each : (us : List Site) → AllByRecursion (λ s. KindIsRight source flat word s.token s.kind) us → AllByRecursion (λ s. is_overwrite_at (first_token body) s ≡ true → TargetStands body s.kind) us
        each [] h = tt
        each (s ∷ us) h = (target_stands events body at e s h.0, each us h.1)

-- The whole design

module _ (source : SourceText) (flat : Flat) (word : Option Text) (ss : List Site) (r : AreRight source flat word ss) (o : From source.modules ss flat) where
  side_fits : (side : Side) → SideFrom source.modules ss flat.owners side → SideFits flat word ss side
  side_fits (Written t i) (l, (x, (c, q, b))) = λ name h.
      let e = o.even in
      let there : i < length flat.scopes = omega (arith, l, e) in
      let is = item_is source.modules (owner_at flat i) x c in
      let may : MayGuardIf (is_clocked x) flat word i name = subst (λ y. MayGuardIf (is_clocked y) flat word i name) is (item_names source flat word i c.0 there c.1 ss r name (subst (IsNameOfItem ss name) (sym is) (b name h))) in
      subst (λ z. MayGuardIf z flat word i name) q may
  side_fits (Whole id) f = tt

  block_fits : (clocked : Bool) (block : Block) → BlockFrom source.modules ss clocked flat.owners block → BlockFits (MayGuardIf clocked flat word block.scope) ss block
  unfolding IsNameOfItem
  block_fits clocked block (l, (events, (at, (s, (c, q, u))))) =
      let e = o.even in
      let there : block.scope < length flat.scopes = omega (arith, l, e) in
      let is : item_at source.modules (owner_at flat block.scope) c.0 ≡ Always events s at = item_is source.modules (owner_at flat block.scope) (Always events s at) c in
      record {
        names = λ name h.
            let may : MayGuardIf (has_edges events) flat word block.scope name =
            subst (λ y. MayGuardIf (is_clocked y) flat word block.scope name) is (item_names source flat word block.scope c.0 there c.1 ss r name (subst (IsNameOfItem ss name) (sym is) (brings_same ss s block.body u name h))) in
            subst (λ z. MayGuardIf z flat word block.scope name) q may;
        targets = all_still_stand ss s block.body u (targets_stand source flat word block.scope c.0 there c.1 ss r events s at is);
      }

  pub all_fit : AreSitesOf flat word ss
  all_fit = record {
    drivers = λ k l. side_fits (driver_at flat k).value (all_index (λ d. SideFrom source.modules ss flat.owners d.value) flat.drivers k no_driver o.drivers l);
    clocked = λ k l. block_fits true (block_at flat.clocked k) (all_index (BlockFrom source.modules ss true flat.owners) flat.clocked k no_block o.clocked l);
    combinational = λ k l. block_fits false (block_at flat.combinational k) (all_index (BlockFrom source.modules ss false flat.owners) flat.combinational k no_block o.combinational l);
  }

pub listed : (source : SourceText) (top : Option Text) (flat : Flat) (word : Option Text) (ss : List Site) → flat_of source top ≡ Ok flat → AreRight source flat word ss → AreSitesOf flat word ss
listed source top flat word ss e r = all_fit source flat word ss r (origins ss source top flat e)

-- and they fit the walk of the source

may_scalar : (b : Bool) (flat : Flat) (word : Option Text) (i : ℕ) (name : Text) → MayGuardIf b flat word i name → IsScalar (scope_at flat i) name
may_scalar true flat word i name m = (m.signal, (m.signed, m.scalar))
may_scalar false flat word i name m = (m.guard.signal, (m.guard.signed, m.guard.scalar))

module _ (source : SourceText) (top : Option Text) (flat : Flat) (word : Option Text) (design : flat_of source top ≡ Ok flat) where
  declared : (owner token : ℕ) (kind : SiteKind) → IsRight source flat word owner token kind → IsDeclared source flat owner token (guard_names kind)
  declared owner token kind f = record {
    within = stands_within source.modules owner f.item token f.stands;
    scalars = λ i l o j d m. scalar_here i l o j d m;
    free = λ i l o j d m. subst (λ (k : ℕ). IsFree source.modules k (slice_index_or (guard_names kind) j d)) o (scalar_is_free source top flat design i l (slice_index_or (guard_names kind) j d) (scalar_here i l o j d m));
  }
    where
      scalar_here : (i : ℕ) → i < length flat.scopes → owner_at flat i ≡ owner → (j : ℕ) (d : Text) → j < length (guard_names kind) → IsScalar (scope_at flat i) (slice_index_or (guard_names kind) j d)
      scalar_here i l o j d m = may_scalar (is_clocked (item_at source.modules owner f.item)) flat word i (slice_index_or (guard_names kind) j d) (f.names i l o j d m)

  pub site_fits : (token : ℕ) (kind : SiteKind) → KindIsRight source flat word token kind → KindFits source flat token kind
  site_fits token (sites.Literal width signed) f = f
  site_fits token (sites.Guard owner extent names) f = declared owner token (sites.Guard owner extent names) f
  site_fits token (sites.Overwrite owner target width now names) f = (declared owner token (sites.Overwrite owner target width now names) f.0, f.1)

  each_fits : (ss : List Site) → AllByRecursion (λ s. KindIsRight source flat word s.token s.kind) ss → AllByRecursion (SiteFits source flat) ss
  each_fits [] h = tt
  each_fits (s ∷ ss) h = (site_fits s.token s.kind h.0, each_fits ss h.1)

pub listed_fit : (source : SourceText) (top : Option Text) (flat : Flat) (word : Option Text) (ss : List Site) → flat_of source top ≡ Ok flat → RightTargets flat → AreRight source flat word ss → SitesFit ss source flat
listed_fit source top flat word ss e t r = listed_sites_fit ss source flat (record { formed = r.formed; numbered = r.numbered; targets = t; each = each_fits source top flat word e ss r.each })
