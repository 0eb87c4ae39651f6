-- The sites that are listed of a module are the sites of the module.
use Rattle.std.proofs.Common.{◌≡◌, inl, inr, ℕ, zero, suc, ◌+◌, ◌<◌, Bool, true, false, ◌==◌, if◌then◌else◌, List, [], ◌∷◌, length, map, filter, Contains, refl, sym, subst, ap, ap₂, ◌∙◌, arith}
use Rattle.std.specs.List.{AllByRecursion}
use Rattle.std.proofs.lemmas.Bool.{and_parts, and_from, eqb-true, eq-eqb}
use Rattle.std.proofs.lemmas.List.Elements.{Contains-append_left, Contains-append_cases}
use Rattle.rr_syntax.specs.declared.token.Number.{Number}
use Rattle.rr_syntax.specs.Expressions.{spell}
use Rattle.rr_syntax.specs.Items.{spell_item, spell_events, spell_module, WellFormedModule, NumberedAll, NumberedItem, NumberedModule, WellFormedSource, NumberedSource}
use Rattle.rr_syntax.specs.Statements.{NumberedStatement}
use Rattle.rr_syntax.specs.Tree.{Tree, Literal, Statement, EventControl, ModuleItem, Always, ModuleDeclaration, SourceText}
use Rattle.rr_expr.specs.Faults.{first}
use Rattle.rr_expr.specs.Scopes.{Names}
use Rattle.rr_flat.specs.Signals.{Text}
use Rattle.rr_instance.specs.Firsts.{first_token}
use Rattle.rr_choice.specs.Sites as sites
use Rattle.rr_choice.specs.Sites.{Site}
use Rattle.rr_change_places.specs.Spots.{Spot, Body, Test, Value, spots_of_item, is_clocked, has_edges}
use Rattle.rr_literal.specs.Literals.{is_known, literal_at}
use Rattle.rr_guard.specs.Names.{names_at}
use Rattle.rr_overwrite.specs.Overwrites.{Target, targets_of, may_overwrite, width_in, overwrite_of}
use Rattle.rr_clock.specs.Places.{Place}
use Rattle.rr_sites_listed.specs.Listing.{AreRising, module_at, scope_of, sites_at, item_sites, module_sites, place_sites, sites_of}
use Rattle.rr_sites_complete.specs.GuardNames.{AreNamesAt}
use Rattle.rr_sites_complete.specs.Kinds.{IsLiteralSite, IsGuardSite, IsOverwriteSite, IsSiteOf, literal, guard, overwrite}
use Rattle.rr_sites_complete.specs.Laws.{IsGiven, ListedAreSites, SitesAreListed}
use Rattle.rr_sites_complete.specs.Places.{Stands, IsTest}
use Rattle.rr_sites_complete.proofs.Declared.{may_from, may_in}
use Rattle.rr_sites_complete.proofs.GuardWords.{names_are, one_list}
use Rattle.rr_sites_complete.proofs.Items.{IsBody, IsSpotAt, item_there, item_in}
use Rattle.rr_sites_complete.proofs.Lists.{head_in, none_in, all_in, cases_in, flat_in, flat_from, map_in, map_from, filter_in, filter_from}
use Rattle.rr_sites_complete.proofs.Whole.{targets_from, targets_in}

-- Items of a module

-- each stands at some token
pub item_numbered : (xs : List ModuleItem) (at : ℕ) → NumberedAll spell_item NumberedItem xs at → (x : ModuleItem) → Contains xs x → (start : ℕ) × NumberedItem x start
unfolding NumberedAll
item_numbered [] at n x c = absurd (none_in x c)
item_numbered (y ∷ ys) at n x c = elim (cases_in y ys x c) [
  | inl e ↦ (at, subst (λ z. NumberedItem z at) e n.0)
  | inr d ↦ item_numbered ys (at + length (spell_item y)) n.1 x d
]

body_numbered : (events : EventControl) (body : Statement) (token start : ℕ) → NumberedItem (Always events body token) start → (at : ℕ) × NumberedStatement body at
unfolding NumberedItem
body_numbered events body token start n = (start + 2 + length (spell_events events), n.2)

-- a module whose leaves have the numbers of their tokens
pub record IsText (m : ModuleDeclaration) : Type 0 where
  pub at : ℕ
  pub formed : WellFormedModule m
  pub numbered : NumberedModule m at

pub numbered_body : (m : ModuleDeclaration) → IsText m → (events : EventControl) (body : Statement) (token : ℕ) → Contains m.items (Always events body token) → (at : ℕ) × NumberedStatement body at
unfolding NumberedModule
numbered_body m t events body token c = let r = item_numbered m.items _ t.numbered.3 (Always events body token) c in body_numbered events body token r.0 r.1

-- Literals

known_from : (n : Number) → is_known n ≡ true → (n.any ≡ 0) × (n.unknown ≡ 0)
known_from n h = let r = and_parts (n.any == 0) (n.unknown == 0) h in (eqb-true n.any 0 r.0, eqb-true n.unknown 0 r.1)

known_in : (n : Number) → n.any ≡ 0 → n.unknown ≡ 0 → is_known n ≡ true
known_in n a b = and_from (n.any == 0) (n.unknown == 0) (eq-eqb n.any 0 a) (eq-eqb n.unknown 0 b)

abbrev literal_site : ℕ → Number → Site
literal_site token n = record { kind = sites.Literal n.width n.signed; token = token }

pub literal_from : (token : ℕ) (n : Number) (s : Site) → Contains (literal_at (Value token n)) s → (is_known n ≡ true) × (literal_site token n ≡ s)
literal_from token n s c = by (is_known n) refl c
  where
    by : (b : Bool) → is_known n ≡ b → Contains (if b then literal_site token n ∷ [] else []) s → (is_known n ≡ true) × (literal_site token n ≡ s)
    by true e c = elim (cases_in (literal_site token n) [] s c) [
      | inl q ↦ (e, q)
      | inr d ↦ absurd (none_in s d)
    ]
    by false e c = absurd (none_in s c)

literal_in : (token : ℕ) (n : Number) → is_known n ≡ true → Contains (literal_at (Value token n)) (literal_site token n)
literal_in token n h = subst (λ b. Contains (if b then literal_site token n ∷ [] else []) (literal_site token n)) (sym h) (head_in (literal_site token n) [])

same_site : (s : Site) (k : sites.SiteKind) (token : ℕ) → s.kind ≡ k → s.token ≡ token → record { kind = k; token = token } ≡ s
same_site s k token a b = ap₂ (λ x y. record { kind = x; token = y }) (sym a) (sym b)

module _ (m : ModuleDeclaration) (owner : ℕ) (scope : Names) (clocks : List Text) (text : IsText m) where
  abbrev Is : Site → Type 0
  Is s = IsSiteOf m owner scope clocks s

  abbrev names : Bool → ℕ → List Text
  names c token = names_at m clocks c token

  names_right : (c : Bool) (token : ℕ) → AreNamesAt m clocks c token (names c token)
  names_right c token = names_are m text.at text.formed text.numbered clocks c token

  abbrev guard_site : Bool → Tree → Site
  guard_site c t = record { kind = sites.Guard owner (length (spell t)) (names c (first t)); token = first t }

  abbrev chosen : Statement → List Target
  chosen s = filter (may_overwrite m) (targets_of s)

  abbrev overwrite_site : Bool → Statement → Target → Site
  overwrite_site c s t = overwrite_of owner scope (names c (first_token s)) s t

  -- Each listed site is one

  overwrite_is : (events : EventControl) (body : Statement) (token : ℕ) → Contains m.items (Always events body token) → (t : Target) → Contains (chosen body) t → Is (overwrite_site (has_edges events) body t)
  overwrite_is events body token c t h =
      let f = filter_from (may_overwrite m) (targets_of body) t h in
      let n = numbered_body m text events body token c in
      let q = targets_from body n.0 n.1 t f.0 in
      let v = may_from m t f.1 in
      overwrite (record {
        events = events;
        body = body;
        always = token;
        there = c;
        name = t.text;
        target = q.0;
        now = t.now;
        is_target = q.1;
        variable = v.0;
        plain = v.1;
        token = refl;
        names = names (has_edges events) (first_token body);
        names_are = names_right (has_edges events) (first_token body);
        kind = refl;
      })

  body_is : (x : ModuleItem) → Contains m.items x → (body : Statement) → IsBody body x → (s : Site) → Contains (sites_at m owner scope clocks (is_clocked x) (Body body)) s → Is s
  body_is x c body h s k = elim (Contains-append_cases (map (overwrite_site (is_clocked x) body) (chosen body)) [] s k) [
    | inl d ↦
        let r = map_from (overwrite_site (is_clocked x) body) (chosen body) s d in
        let e : is_clocked x ≡ has_edges h.events = ap is_clocked h.is in
        subst Is (ap (λ b. overwrite_site b body r.0) (sym e) ∙ r.2) (overwrite_is h.events body h.token (subst (Contains m.items) h.is c) r.0 r.1)
    | inr d ↦ absurd (none_in s d)
  ]

  test_is : (x : ModuleItem) → Contains m.items x → (t : Tree) → IsTest t x → (s : Site) → Contains (sites_at m owner scope clocks (is_clocked x) (Test t)) s → Is s
  test_is x c t h s k = elim (cases_in (guard_site (is_clocked x) t) [] s k) [
    | inl e ↦ subst Is e (guard (record {
      item = x;
      there = c;
      test = t;
      stands = h;
      token = refl;
      names = names (is_clocked x) (first t);
      names_are = names_right (is_clocked x) (first t);
      kind = refl;
    }))
    | inr d ↦ absurd (none_in s d)
  ]

  value_is : (x : ModuleItem) → Contains m.items x → (token : ℕ) (n : Number) → Stands (Literal token n) x → (s : Site) → Contains (literal_at (Value token n)) s → Is s
  value_is x c token n h s k =
      let r = literal_from token n s k in
      let d = known_from n r.0 in
      subst Is r.1 (literal (record { item = x; there = c; number = n; stands = h; no_z = d.0; no_x = d.1; kind = refl }))

  spot_is : (x : ModuleItem) → Contains m.items x → (spot : Spot) → IsSpotAt x spot → (s : Site) → Contains (sites_at m owner scope clocks (is_clocked x) spot) s → Is s
  spot_is x c (Body body) h s k = body_is x c body h s k
  spot_is x c (Test t) h s k = test_is x c t h s k
  spot_is x c (Value token n) h s k = value_is x c token n h s k

  pub module_from : (s : Site) → Contains (module_sites m owner scope clocks) s → Is s
  unfolding module_sites
  module_from s c =
      let r = flat_from (item_sites m owner scope clocks) m.items s c in
      let q = flat_from (sites_at m owner scope clocks (is_clocked r.0)) (spots_of_item r.0) s r.2 in
      spot_is r.0 r.1 q.0 (item_there r.0 q.0 q.1) s q.2

  -- Each site is listed

  at_spot : (x : ModuleItem) → Contains m.items x → (spot : Spot) → IsSpotAt x spot → (s : Site) → Contains (sites_at m owner scope clocks (is_clocked x) spot) s → Contains (module_sites m owner scope clocks) s
  unfolding module_sites
  at_spot x c spot h s k = flat_in (item_sites m owner scope clocks) m.items x s c (flat_in (sites_at m owner scope clocks (is_clocked x)) (spots_of_item x) spot s (item_in x spot h) k)

  literal_listed : (s : Site) → IsLiteralSite m s → Contains (module_sites m owner scope clocks) s
  literal_listed s h =
      at_spot h.item h.there (Value s.token h.number) h.stands s
      (subst (Contains (literal_at (Value s.token h.number))) (same_site s (sites.Literal h.number.width h.number.signed) s.token h.kind refl) (literal_in s.token h.number (known_in h.number h.no_z h.no_x)))

  guard_listed : (s : Site) → IsGuardSite m owner clocks s → Contains (module_sites m owner scope clocks) s
  guard_listed s h =
      let c = is_clocked h.item in
      let e = one_list m clocks c (first h.test) h.names (names c (first h.test)) h.names_are (names_right c (first h.test)) in
      at_spot h.item h.there (Test h.test) h.stands s
      (subst (Contains (guard_site c h.test ∷ [])) (same_site s (sites.Guard owner (length (spell h.test)) (names c (first h.test))) (first h.test) (h.kind ∙ ap (sites.Guard owner (length (spell h.test))) e) h.token)
      (head_in (guard_site c h.test) []))

  overwrite_listed : (s : Site) → IsOverwriteSite m owner scope clocks s → Contains (module_sites m owner scope clocks) s
  overwrite_listed s h =
      let c = has_edges h.events in
      let n = numbered_body m text h.events h.body h.always h.there in
      let t : Target = record { text = h.name; now = h.now } in
      let e = one_list m clocks c (first_token h.body) h.names (names c (first_token h.body)) h.names_are (names_right c (first_token h.body)) in
      let listed = filter_in (may_overwrite m) (targets_of h.body) t (targets_in h.body n.0 n.1 h.name h.target h.now h.is_target) (may_in m t h.variable h.plain) in
      at_spot (Always h.events h.body h.always) h.there (Body h.body) (record { events = h.events; token = h.always; is = refl }) s
      (Contains-append_left (map (overwrite_site c h.body) (chosen h.body)) [] s
      (subst (Contains (map (overwrite_site c h.body) (chosen h.body))) (same_site s (sites.Overwrite owner h.name (width_in scope h.name) h.now (names c (first_token h.body))) (first_token h.body) (h.kind ∙ ap (sites.Overwrite owner h.name (width_in scope h.name) h.now) e) h.token)
      (map_in (overwrite_site c h.body) (chosen h.body) t listed)))

  pub module_in : (s : Site) → Is s → Contains (module_sites m owner scope clocks) s
  module_in s (literal h) = literal_listed s h
  module_in s (guard h) = guard_listed s h
  module_in s (overwrite h) = overwrite_listed s h

-- Modules of a source

module_text : (ms : List ModuleDeclaration) (at k : ℕ) → AllByRecursion WellFormedModule ms → NumberedAll spell_module NumberedModule ms at → k < length ms → IsText (module_at ms k)
unfolding NumberedAll
module_text [] at k w n l = absurd (omega (arith, l))
module_text (m ∷ ms) at zero w n l = record { at = at; formed = w.0; numbered = n.0 }
module_text (m ∷ ms) at (suc k) w n l = module_text ms (at + length (spell_module m)) k w.1 n.1 (omega (arith, l))

pub owner_there : (n : ℕ) (places : List Place) → AreRising n places → AllByRecursion (λ (p : Place). p.owner < n) places
unfolding AreRising
owner_there n [] r = tt
owner_there n (p ∷ ps) r = (r.0, owner_there n ps r.2)

pub text_of : (source : SourceText) (places : List Place) → IsGiven source places → (p : Place) → Contains places p → IsText (module_at source.modules p.owner)
unfolding WellFormedSource NumberedSource
text_of source places g p c = module_text source.modules 0 p.owner g.formed g.numbered (all_in (λ (q : Place). q.owner < length source.modules) places p (owner_there (length source.modules) places g.rising) c)

pub listed_are_sites : ListedAreSites
unfolding sites_of
listed_are_sites source scopes owners places g s c =
    let r = flat_from (place_sites source scopes owners) places s c in
    record {
      place = r.0;
      reached = r.1;
      is = module_from (module_at source.modules r.0.owner) r.0.owner (scope_of scopes owners r.0.owner) r.0.clocks (text_of source places g r.0 r.1) s r.2;
    }

pub sites_are_listed : SitesAreListed
unfolding sites_of
sites_are_listed source scopes owners places g s h =
    let p = h.place in
    flat_in (place_sites source scopes owners) places p s h.reached (module_in (module_at source.modules p.owner) p.owner (scope_of scopes owners p.owner) p.clocks (text_of source places g p h.reached) s h.is)
