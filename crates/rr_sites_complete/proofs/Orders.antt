-- The sites that are listed are in their order, each once.
use Rattle.std.proofs.Common.{◌≡◌, inl, inr, ℕ, zero, suc, ◌+◌, ◌<◌, ◌≤◌, Bool, List, [], ◌∷◌, ◌++◌, length, get_or, map, filter, flat_map, Contains, refl, sym, subst, arith}
use Rattle.std.specs.List.{AllByRecursion}
use Rattle.std.proofs.lemmas.List.Elements.{Contains-append_left, Contains-append_cases, Contains-get_or}
use Rattle.rr_syntax.specs.Items.{spell_item, spell_parameters, spell_ports, spell_all, spell_module, WellFormedItem, WellFormedModule, WellFormedSource, NumberedAll, NumberedItem, NumberedModule, NumberedSource}
use Rattle.rr_syntax.specs.Tree.{Statement, EventControl, ModuleItem, Ports, Nets, Variables, Integers, Parameters, Assigns, Always, Initial, Instances, ModuleDeclaration, SourceText}
use Rattle.rr_expr.specs.Scopes.{Names}
use Rattle.rr_flat.specs.Signals.{Text}
use Rattle.rr_flat_instance.specs.Owned.{start_of}
use Rattle.rr_flat_instance.proofs.Spans as span
use Rattle.rr_instance.specs.Firsts.{first_token}
use Rattle.rr_choice.specs.Sites as sites
use Rattle.rr_choice.specs.Sites.{SiteKind, Site}
use Rattle.rr_change_places.specs.Spots.{Spot, Body, Test, Value, spots_of, spots_of_item, is_clocked, has_edges}
use Rattle.rr_guard.specs.Names.{names_at}
use Rattle.rr_overwrite.specs.Overwrites.{targets_of, may_overwrite, overwrite_of}
use Rattle.rr_clock.specs.Places.{Place}
use Rattle.rr_sites_listed.specs.Listing.{AreRising, module_at, scope_of, sites_at, item_sites, module_sites, place_sites, sites_of}
use Rattle.rr_sites_ordered.specs.Order.{ComesFirst, Precedes, InOrder}
use Rattle.rr_sites_ordered.proofs.Ordered.{items_in}
use Rattle.rr_flat_instance.proofs.Modules.{numbered_module}
use Rattle.rr_sites_ordered.proofs.Modules.{in_order}
use Rattle.rr_sites_complete.specs.Laws.{SitesRise, SitesStandOnce}
use Rattle.rr_sites_complete.specs.Order.{TargetsRise, KindPrecedes, ComesBefore, Ordered}
use Rattle.rr_sites_complete.proofs.Items.{IsSpotAt, item_there}
use Rattle.rr_sites_complete.proofs.Lists.{head_in, tail_in, none_in, all_in, every_in, cases_in, flat_from, filter_from}
use Rattle.rr_sites_complete.proofs.Members.{IsText, numbered_body, text_of, literal_from}
use Rattle.rr_sites_complete.proofs.Statements.{IsSpotOf, spots_there}
use Rattle.rr_sites_complete.proofs.Whole.{ordered_filter, ordered_weaken, targets_from, AreApart, targets_follow}

-- Lists in order

module _ {X : Type 0} (R : X → X → Type 0) where
  ordered_join : (xs ys : List X) → Ordered R xs → Ordered R ys → ((x y : X) → Contains xs x → Contains ys y → R x y) → Ordered R (xs ++ ys)
  unfolding Ordered
  ordered_join [] ys a b k = b
  ordered_join (x ∷ xs) ys a b k = (
    every_in (R x) (xs ++ ys) (λ y c. elim (Contains-append_cases xs ys y c) [
      | inl d ↦ all_in (R x) xs y a.0 d
      | inr d ↦ k x y (head_in x xs) d
    ]),
    ordered_join xs ys a.1 b (λ y z c d. k y z (tail_in x xs y c) d),
  )

  ordered_all : (xs : List X) → ((x y : X) → Contains xs x → Contains xs y → R x y) → Ordered R xs
  unfolding Ordered
  ordered_all [] k = tt
  ordered_all (x ∷ xs) k = (every_in (R x) xs (λ y c. k x y (head_in x xs) (tail_in x xs y c)), ordered_all xs (λ y z c d. k y z (tail_in x xs y c) (tail_in x xs z d)))

  ordered_once : ((x : X) → R x x → ⊥) → (xs : List X) → Ordered R xs → (j k : ℕ) (d : X) → j < k → k < length xs → get_or xs j d ≡ get_or xs k d → ⊥
  unfolding Ordered
  ordered_once n [] h j k d l m e = omega (arith, m)
  ordered_once n (x ∷ xs) h j zero d l m e = omega (arith, l)
  ordered_once n (x ∷ xs) h zero (suc k) d l m e = n x (subst (R x) (sym e) (all_in (R x) xs (get_or xs k d) h.0 (Contains-get_or xs k d (omega (arith, m)))))
  ordered_once n (x ∷ xs) h (suc j) (suc k) d l m e = ordered_once n xs h.1 j k d (omega (arith, l)) (omega (arith, m)) e

all_mapped : {X Y : Type 0} (P : X → Type 0) (f : Y → X) (ys : List Y) → AllByRecursion (λ y. P (f y)) ys → AllByRecursion P (map f ys)
all_mapped P f [] h = tt
all_mapped P f (y ∷ ys) h = (h.0, all_mapped P f ys h.1)

ordered_map : {X Y : Type 0} (R : X → X → Type 0) (f : Y → X) (ys : List Y) → Ordered (λ y z. R (f y) (f z)) ys → Ordered R (map f ys)
unfolding Ordered
ordered_map R f [] h = tt
ordered_map R f (y ∷ ys) h = (all_mapped (R (f y)) f ys h.0, ordered_map R f ys h.1)

-- Overwrites at one token

abbrev KindRises : List ModuleDeclaration → ℕ → SiteKind → SiteKind → Type 0
KindRises ms token (sites.Literal width signed) k = Unit {0}
KindRises ms token (sites.Guard owner extent names) k = Unit {0}
KindRises ms token (sites.Overwrite owner name width now names) (sites.Literal wide signed) = Unit {0}
KindRises ms token (sites.Overwrite owner name width now names) (sites.Guard other extent more) = Unit {0}
KindRises ms token (sites.Overwrite owner name width now names) (sites.Overwrite other next wide later more) = TargetsRise (module_at ms owner) token name next

abbrev Rises : List ModuleDeclaration → Site → Site → Type 0
Rises ms a b = a.token ≡ b.token → KindRises ms a.token a.kind b.kind

abbrev IsOther : SiteKind → Type 0
IsOther (sites.Literal width signed) = Unit {0}
IsOther (sites.Guard owner extent names) = Unit {0}
IsOther (sites.Overwrite owner name width now names) = ⊥

other_first : (ms : List ModuleDeclaration) (token : ℕ) (k l : SiteKind) → IsOther k → KindRises ms token k l
other_first ms token (sites.Literal width signed) l h = tt
other_first ms token (sites.Guard owner extent names) l h = tt
other_first ms token (sites.Overwrite owner name width now names) l h = absurd h

other_last : (ms : List ModuleDeclaration) (token : ℕ) (k l : SiteKind) → IsOther l → KindRises ms token k l
other_last ms token (sites.Literal width signed) l h = tt
other_last ms token (sites.Guard owner extent names) l h = tt
other_last ms token (sites.Overwrite owner name width now names) (sites.Literal wide signed) h = tt
other_last ms token (sites.Overwrite owner name width now names) (sites.Guard other extent more) h = tt
other_last ms token (sites.Overwrite owner name width now names) (sites.Overwrite other next wide later more) h = absurd h

precedes : (ms : List ModuleDeclaration) (token : ℕ) (k l : SiteKind) → ComesFirst k l → KindRises ms token k l → KindPrecedes ms token k l
precedes ms token (sites.Literal width signed) l h r = h
precedes ms token (sites.Guard owner extent names) (sites.Overwrite other next wide later more) h r = h
precedes ms token (sites.Guard owner extent names) (sites.Guard other inner more) h r = h
precedes ms token (sites.Guard owner extent names) (sites.Literal wide signed) h r = tt
precedes ms token (sites.Overwrite owner name width now names) (sites.Literal wide signed) h r = tt
precedes ms token (sites.Overwrite owner name width now names) (sites.Guard other extent more) h r = tt
precedes ms token (sites.Overwrite owner name width now names) (sites.Overwrite other next wide later more) h r = r

comes_before : (source : SourceText) (a b : Site) → Precedes a b → Rises source.modules a b → ComesBefore source a b
comes_before source a b (inl l) r = inl l
comes_before source a b (inr (e, k)) r = inr (e, precedes source.modules a.token a.kind b.kind k (r e))

-- with the order by tokens and kinds
joined : (source : SourceText) (ss : List Site) → InOrder ss → Ordered (Rises source.modules) ss → Ordered (ComesBefore source) ss
unfolding InOrder Ordered
joined source [] a b = tt
joined source (s ∷ ss) a b = (every_in (ComesBefore source s) ss (λ t c. comes_before source s t (all_in (Precedes s) ss t a.0 c) (all_in (Rises source.modules s) ss t b.0 c)), joined source ss a.1 b.1)

abbrev IsAlways : ModuleItem → Type 0
IsAlways (Ports p) = ⊥
IsAlways (Nets signed range list) = ⊥
IsAlways (Variables signed range list) = ⊥
IsAlways (Integers list) = ⊥
IsAlways (Parameters p) = ⊥
IsAlways (Assigns pairs) = ⊥
IsAlways (Always events body token) = Unit {0}
IsAlways (Initial body token) = ⊥
IsAlways (Instances m token over list) = ⊥

abbrev IsNoBody : Spot → Type 0
IsNoBody (Body s) = ⊥
IsNoBody (Test t) = Unit {0}
IsNoBody (Value token n) = Unit {0}

no_body_of : (body : Statement) (spot : Spot) → IsSpotOf body spot → IsNoBody spot
no_body_of body (Body s) h = h
no_body_of body (Test t) h = tt
no_body_of body (Value token n) h = tt

no_body_at : (x : ModuleItem) → (IsAlways x → ⊥) → (spot : Spot) → IsSpotAt x spot → IsNoBody spot
no_body_at x n (Body s) h = n (subst IsAlways (sym h.is) tt)
no_body_at x n (Test t) h = tt
no_body_at x n (Value token d) h = tt

-- One module

module _ (ms : List ModuleDeclaration) (owner : ℕ) (scope : Names) (clocks : List Text) (text : IsText (module_at ms owner)) where
  abbrev m : ModuleDeclaration
  m = module_at ms owner

  abbrev at_spot : Bool → Spot → List Site
  at_spot c spot = sites_at m owner scope clocks c spot

  abbrev Up : List Site → Type 0
  Up ss = Ordered (Rises ms) ss

  other_at : (c : Bool) (spot : Spot) → IsNoBody spot → (s : Site) → Contains (at_spot c spot) s → IsOther s.kind
  other_at c (Body b) n s k = absurd n
  other_at c (Test t) n s k = elim (cases_in _ [] s k) [
    | inl e ↦ subst (λ (w : Site). IsOther w.kind) e tt
    | inr d ↦ absurd (none_in s d)
  ]
  other_at c (Value token d) n s k = subst (λ (w : Site). IsOther w.kind) (literal_from token d s k).1 tt

  others : (c : Bool) (spots : List Spot) → ((spot : Spot) → Contains spots spot → IsNoBody spot) → (s : Site) → Contains (flat_map (at_spot c) spots) s → IsOther s.kind
  others c spots n s k = let r = flat_from (at_spot c) spots s k in other_at c r.0 (n r.0 r.1) s r.2

  others_up : (c : Bool) (spots : List Spot) → ((spot : Spot) → Contains spots spot → IsNoBody spot) → Up (flat_map (at_spot c) spots)
  others_up c spots n = ordered_all (Rises ms) (flat_map (at_spot c) spots) (λ a b j k e. other_first ms a.token a.kind b.kind (others c spots n a j))

  -- the overwrites of one body
  overwrites_up : (events : EventControl) (body : Statement) (token : ℕ) → Contains m.items (Always events body token) → (c : Bool) →
      Up (map (overwrite_of owner scope (names_at m clocks c (first_token body)) body) (filter (may_overwrite m) (targets_of body)))
  overwrites_up events body token there c =
      let n = numbered_body m text events body token there in
      let f = overwrite_of owner scope (names_at m clocks c (first_token body)) body in
      let ts = filter (may_overwrite m) (targets_of body) in
      ordered_map (Rises ms) f ts
      (ordered_weaken (AreApart body n.0 n.1) (λ r s. Rises ms (f r) (f s)) ts
      (λ r s j k apart e.
      let a = targets_from body n.0 n.1 r (filter_from (may_overwrite m) (targets_of body) r j).0 in
      let b = targets_from body n.0 n.1 s (filter_from (may_overwrite m) (targets_of body) s k).0 in
      record {
        events = events;
        body = body;
        always = token;
        there = there;
        begins = refl;
        target = a.0;
        now = r.now;
        is_target = a.1;
        later = b.0;
        later_now = s.now;
        is_later = b.1;
        before = apart a.0 b.0 a.1 b.1;
      })
      (ordered_filter (AreApart body n.0 n.1) (may_overwrite m) (targets_of body) (targets_follow body n.0 n.1)))

  no_always : (x : ModuleItem) → (IsAlways x → ⊥) → Up (item_sites m owner scope clocks x)
  no_always x n = others_up (is_clocked x) (spots_of_item x) (λ spot c. no_body_at x n spot (item_there x spot c))

  always_up : (events : EventControl) (body : Statement) (token : ℕ) → Contains m.items (Always events body token) → Up (item_sites m owner scope clocks (Always events body token))
  unfolding spots_of_item Ordered
  always_up events body token there =
      let c = has_edges events in
      let os = map (overwrite_of owner scope (names_at m clocks c (first_token body)) body) (filter (may_overwrite m) (targets_of body)) in
      let inside = others c (spots_of body) (λ spot k. no_body_of body spot (all_in (IsSpotOf body) (spots_of body) spot (spots_there body) k)) in
      ordered_join (Rises ms) (os ++ []) (flat_map (at_spot c) (spots_of body))
      (ordered_join (Rises ms) os [] (overwrites_up events body token there c) tt (λ a b j k. absurd (none_in b k)))
      (others_up c (spots_of body) (λ spot k. no_body_of body spot (all_in (IsSpotOf body) (spots_of body) spot (spots_there body) k)))
      (λ a b j k e. other_last ms a.token a.kind b.kind (inside b k))

  item_up : (x : ModuleItem) → Contains m.items x → Up (item_sites m owner scope clocks x)
  item_up (Ports p) c = no_always (Ports p) (λ h. h)
  item_up (Nets signed range list) c = no_always (Nets signed range list) (λ h. h)
  item_up (Variables signed range list) c = no_always (Variables signed range list) (λ h. h)
  item_up (Integers list) c = no_always (Integers list) (λ h. h)
  item_up (Parameters p) c = no_always (Parameters p) (λ h. h)
  item_up (Assigns pairs) c = no_always (Assigns pairs) (λ h. h)
  item_up (Always events body token) c = always_up events body token c
  item_up (Initial body token) c = no_always (Initial body token) (λ h. h)
  item_up (Instances k token over list) c = no_always (Instances k token over list) (λ h. h)

  abbrev f : ModuleItem → List Site
  f x = item_sites m owner scope clocks x

  items_up : (xs : List ModuleItem) (at : ℕ) → AllByRecursion WellFormedItem xs → NumberedAll spell_item NumberedItem xs at → ((x : ModuleItem) → Contains xs x → Contains m.items x) → Up (flat_map f xs)
  unfolding NumberedAll spell_all Ordered
  items_up [] at w n k = tt
  items_up (x ∷ xs) at w n k =
      let here = items_in m owner scope clocks (x ∷ []) at (w.0, tt) (n.0, tt) in
      let e = span.long-all spell_item x [] in
      let after = items_in m owner scope clocks xs (at + length (spell_item x)) w.1 n.1 in
      ordered_join (Rises ms) (f x) (flat_map f xs) (item_up x (k x (head_in x xs))) (items_up xs (at + length (spell_item x)) w.1 n.1 (λ y c. k y (tail_in x xs y c)))
      (λ a b c d q.
      let l = all_in (λ (s : Site). (at ≤ s.token) × (s.token < at + length (spell_all spell_item (x ∷ [])))) (f x ++ []) a here.all (Contains-append_left (f x) [] a c) in
      let g = all_in (λ (s : Site). (at + length (spell_item x) ≤ s.token) × (s.token < at + length (spell_item x) + length (spell_all spell_item xs))) (flat_map f xs) b after.all d in
      absurd (omega (arith, e, l, g, q)))

  module_up : Up (module_sites m owner scope clocks)
  unfolding WellFormedModule NumberedModule module_sites
  module_up = items_up m.items _ text.formed.3 text.numbered.3 (λ x c. c)

-- Modules one after the other

follows : (ms : List ModuleDeclaration) (k l : ℕ) → k < l → k < length ms → start_of ms k + length (spell_module (module_at ms k)) ≤ start_of ms l
unfolding start_of
follows [] k l h m = absurd (omega (arith, m))
follows (x ∷ ms) zero zero h m = absurd (omega (arith, h))
follows (x ∷ ms) zero (suc l) h m = omega arith
follows (x ∷ ms) (suc k) zero h m = absurd (omega (arith, h))
follows (x ∷ ms) (suc k) (suc l) h m = let f = follows ms k l (omega (arith, h)) (omega (arith, m)) in omega (arith, f)

module _ (source : SourceText) (scopes : List Names) (owners : List ℕ) (formed : WellFormedSource source) (numbered : NumberedSource source) where
  abbrev ms : List ModuleDeclaration
  ms = source.modules

  abbrev g : Place → List Site
  g p = place_sites source scopes owners p

  window : (p : Place) → p.owner < length ms → (s : Site) → Contains (g p) s → (start_of ms p.owner ≤ s.token) × (s.token < start_of ms p.owner + length (spell_module (module_at ms p.owner)))
  unfolding WellFormedSource NumberedSource WellFormedModule NumberedModule module_sites
  window p l s c =
      let m = module_at ms p.owner in
      let r = numbered_module ms 0 p.owner formed numbered l in
      let e = span.long-module m in
      let start = 0 + start_of ms p.owner + 2 + length (spell_parameters m.params) + length (spell_ports m.header m.groups) + 1 in
      let h = all_in (λ (s : Site). (start ≤ s.token) × (s.token < start + length (spell_all spell_item m.items))) (module_sites m p.owner (scope_of scopes owners p.owner) p.clocks) s (items_in m p.owner (scope_of scopes owners p.owner) p.clocks m.items start r.0.3 r.1.3).all c in
      (omega (arith, h), omega (arith, h, e))

  later_there : (ps : List Place) → AreRising (length ms) ps → AllByRecursion (λ (q : Place). q.owner < length ms) ps
  unfolding AreRising
  later_there [] r = tt
  later_there (p ∷ ps) r = (r.0, later_there ps r.2)

  places_up : (places : List Place) → AreRising (length ms) places → ((p : Place) → Contains places p → IsText (module_at ms p.owner)) → Ordered (Rises ms) (flat_map g places)
  unfolding AreRising Ordered
  places_up [] r t = tt
  places_up (p ∷ ps) r t =
      ordered_join (Rises ms) (g p) (flat_map g ps) (module_up ms p.owner (scope_of scopes owners p.owner) p.clocks (t p (head_in p ps))) (places_up ps r.2 (λ q c. t q (tail_in p ps q c)))
      (λ a b c d e.
      let q = flat_from g ps b d in
      let l = all_in (λ (q : Place). p.owner < q.owner) ps q.0 r.1 q.1 in
      let x = window p r.0 a c in
      let y = window q.0 (all_in (λ (q : Place). q.owner < length ms) ps q.0 (later_there ps r.2) q.1) b q.2 in
      let z = follows ms p.owner q.0.owner l r.0 in
      absurd (omega (arith, e, x, y, z)))

pub sites_rise : SitesRise
unfolding sites_of
sites_rise source scopes owners places h =
    joined source (sites_of source scopes owners places) (in_order source scopes owners places h.formed h.numbered h.rising) (places_up source scopes owners h.formed h.numbered places h.rising (λ p c. text_of source places h p c))

-- None comes before itself

kind_once : (ms : List ModuleDeclaration) (token : ℕ) (k : SiteKind) → KindPrecedes ms token k k → ⊥
kind_once ms token (sites.Literal width signed) h = h
kind_once ms token (sites.Guard owner extent names) h = omega (arith, h)
kind_once ms token (sites.Overwrite owner name width now names) h = let a = h.is_later.first h.target h.now h.is_target.assigned in let b = h.before in omega (arith, a, b)

once : (source : SourceText) (a : Site) → ComesBefore source a a → ⊥
once source a (inl l) = omega (arith, l)
once source a (inr (e, k)) = kind_once source.modules a.token a.kind k

pub sites_stand_once : SitesStandOnce
sites_stand_once source scopes owners places h j k d l m e = ordered_once (ComesBefore source) (once source) (sites_of source scopes owners places) (sites_rise source scopes owners places h) j k d l m e
