-- The list does not depend on the order of a place's names.
use Rattle.std.proofs.Common.{◌≡◌, ◌∙◌, ℕ, suc, ◌<◌, Bool, true, false, not, ◌&&◌, ◌||◌, if◌then◌else◌, List, [], ◌∷◌, ◌++◌, length, map, filter, flat_map, get_or, Option, refl, sym, ap, ap₂, subst, arith}
use Rattle.std.specs.List.{Contains, list_any}
use Rattle.std.specs.Str.{bytes_eq}
use Rattle.std.proofs.lemmas.Bool.{both_ways, true≢false}
use Rattle.std.proofs.lemmas.Slice.Eq.{bytes_eq-Decides}
use Rattle.rr_syntax.specs.Tree.{Identifier, ModuleDeclaration, SourceText}
use Rattle.rr_expr.specs.Scopes.{Names}
use Rattle.rr_flat.specs.Plain.{Flat}
use Rattle.rr_flat.specs.Signals.{Text}
use Rattle.rr_change_places.specs.Spots.{is_clocked, spots_of_item}
use Rattle.rr_guard.specs.Names.{scalars, firsts, writes_now, writes_later, may_guard, guard_names, first_names, names_at}
use Rattle.rr_guard.proofs.GuardLists.{flat_map_same}
use Rattle.rr_clock.specs.Places.{Place, IsClockName, IsPlace}
use Rattle.rr_sites_listed.specs.Listing.{sites_at, item_sites, module_at, module_sites, place_sites, scope_of, sites_of}
use Rattle.rr_sites_listed.proofs.Places.{sites_same}
use Rattle.rr_lawful_instance.proofs.Lists.{holds_of}
use Rattle.rr_sites_fit.specs.Laws.{OneList}
use Rattle.rr_sites_fit.proofs.Tests.{none_in}

-- Sets of names

found : (name : Text) (xs : List Text) → Contains xs name → list_any (bytes_eq name) xs ≡ true
found name xs c = by (list_any (bytes_eq name) xs) refl
  where
    by : (b : Bool) → list_any (bytes_eq name) xs ≡ b → list_any (bytes_eq name) xs ≡ true
    by true e = e
    by false e = absurd (true≢false (sym ((bytes_eq-Decides name name).1 refl) ∙ holds_of (λ y. bytes_eq name y ≡ false) xs name (none_in (bytes_eq name) xs e) c))

abbrev IsThere : Text → List Text → Type 0
IsThere name xs = (k : ℕ) × ((k < length xs) × (get_or xs k [] ≡ name))

there_on : (name x : Text) (xs : List Text) → (list_any (bytes_eq name) xs ≡ true → IsThere name xs) → (b : Bool) → bytes_eq name x ≡ b → (b || list_any (bytes_eq name) xs) ≡ true → IsThere name (x ∷ xs)
there_on name x xs r true q e = (0, (omega arith, sym ((bytes_eq-Decides name x).0 q)))
there_on name x xs r false q e = let f = r e in let l = f.1.0 in (suc f.0, (omega (arith, l), f.1.1))

there : (name : Text) (xs : List Text) → list_any (bytes_eq name) xs ≡ true → IsThere name xs
there name [] e = absurd (both_ways false refl e)
there name (x ∷ xs) e = there_on name x xs (there name xs) (bytes_eq name x) refl e

one_way : (a b : Bool) → (a ≡ true → b ≡ true) → (b ≡ true → a ≡ true) → a ≡ b
one_way true b h k = sym (h refl)
one_way false true h k = k refl
one_way false false h k = refl

-- two places of one module have the same names
same_names : (flat : Flat) (clock : Option ℕ) (p q : Place) → p.owner ≡ q.owner → IsPlace flat clock p → IsPlace flat clock q → (name : Text) → list_any (bytes_eq name) p.clocks ≡ list_any (bytes_eq name) q.clocks
same_names flat clock p q o a b name = one_way (list_any (bytes_eq name) p.clocks) (list_any (bytes_eq name) q.clocks) (over p q o a b) (over q p (sym o) b a)
  where
    over : (p q : Place) → p.owner ≡ q.owner → IsPlace flat clock p → IsPlace flat clock q → list_any (bytes_eq name) p.clocks ≡ true → list_any (bytes_eq name) q.clocks ≡ true
    over p q o a b e =
        let k = there name p.clocks e in
        let is = subst (λ n. IsClockName flat clock q.owner n) k.1.1 (subst (λ (w : ℕ). IsClockName flat clock w (get_or p.clocks k.0 [])) o (a.each k.0 k.1.0)) in
        found name q.clocks (b.all name is)

-- Sites

filter_same : {X : Type 0} (f g : X → Bool) → ((x : X) → f x ≡ g x) → (xs : List X) → filter f xs ≡ filter g xs
filter_same f g h [] = refl
filter_same f g h (x ∷ xs) = ap₂ (λ b ys. if b then x ∷ ys else ys) (h x) (filter_same f g h xs)

may_same : (m : ModuleDeclaration) (c d : List Text) → ((name : Text) → list_any (bytes_eq name) c ≡ list_any (bytes_eq name) d) → (clocked : Bool) (name : Text) → may_guard m c clocked name ≡ may_guard m d clocked name
may_same m c d h clocked name = ap (λ b. not b && (not (writes_now m name) && (clocked || writes_later m name))) (h name)

names_same : (m : ModuleDeclaration) (c d : List Text) → ((name : Text) → list_any (bytes_eq name) c ≡ list_any (bytes_eq name) d) → (clocked : Bool) (token : ℕ) → names_at m c clocked token ≡ names_at m d clocked token
unfolding guard_names
names_same m c d h clocked token =
    ap (λ (list : List Identifier). first_names list token) (filter_same (λ (x : Identifier). may_guard m c clocked x.text) (λ (x : Identifier). may_guard m d clocked x.text) (λ x. may_same m c d h clocked x.text) (firsts (scalars m)))

module_same : (m : ModuleDeclaration) (owner : ℕ) (scope : Names) (c d : List Text) → ((name : Text) → list_any (bytes_eq name) c ≡ list_any (bytes_eq name) d) → module_sites m owner scope c ≡ module_sites m owner scope d
unfolding module_sites
module_same m owner scope c d h =
    flat_map_same (item_sites m owner scope c) (item_sites m owner scope d)
    (λ x. flat_map_same (sites_at m owner scope c (is_clocked x)) (sites_at m owner scope d (is_clocked x))
    (λ s. sites_same m owner scope (names_at m c (is_clocked x)) (names_at m d (is_clocked x)) (names_same m c d h (is_clocked x)) s) (spots_of_item x)) m.items

place_same : (source : SourceText) (scopes : List Names) (owners : List ℕ) (p q : Place) → p.owner ≡ q.owner → ((name : Text) → list_any (bytes_eq name) p.clocks ≡ list_any (bytes_eq name) q.clocks) →
    place_sites source scopes owners p ≡ place_sites source scopes owners q
place_same source scopes owners p q o h =
    ap (λ (k : ℕ). module_sites (module_at source.modules k) k (scope_of scopes owners k) p.clocks) o ∙ module_same (module_at source.modules q.owner) q.owner (scope_of scopes owners q.owner) p.clocks q.clocks h

places_same : (source : SourceText) (scopes : List Names) (owners : List ℕ) (flat : Flat) (clock : Option ℕ) (ps qs : List Place) → map (λ (p : Place). p.owner) ps ≡ map (λ (p : Place). p.owner) qs →
    ((k : ℕ) (p : Place) → k < length ps → IsPlace flat clock (get_or ps k p)) → ((k : ℕ) (p : Place) → k < length qs → IsPlace flat clock (get_or qs k p)) →
    flat_map (place_sites source scopes owners) ps ≡ flat_map (place_sites source scopes owners) qs
places_same source scopes owners flat clock [] [] o a b = refl
places_same source scopes owners flat clock [] (q ∷ qs) o a b = absurd (cc)
places_same source scopes owners flat clock (p ∷ ps) [] o a b = absurd (cc)
places_same source scopes owners flat clock (p ∷ ps) (q ∷ qs) o a b =
    let heads : p.owner ≡ q.owner = cc in
    let tails : map (λ (p : Place). p.owner) ps ≡ map (λ (p : Place). p.owner) qs = cc in
    ap₂ (λ xs ys. xs ++ ys) (place_same source scopes owners p q heads (same_names flat clock p q heads (a 0 p (omega arith)) (b 0 q (omega arith))))
    (places_same source scopes owners flat clock ps qs tails (λ k d l. a (suc k) d (omega (arith, l))) (λ k d l. b (suc k) d (omega (arith, l))))

pub one_list : OneList
unfolding sites_of
one_list source scopes owners flat clock ps qs a b = places_same source scopes owners flat clock ps qs (a.owners ∙ sym b.owners) a.right b.right
