-- The modules of places, and the first instance of a module.
use Rattle.std.proofs.Common.{◌≡◌, inl, inr, ◌∙◌, sym, ap, ap₂, subst, ℕ, zero, suc, ◌+◌, ◌<◌, ◌≤◌, Bool, true, false, List, [], ◌∷◌, ◌++◌, length, map, drop, get_or, nat_eq, min, if◌then◌else◌, refl, arith, append_assoc, add-one, Result, OnOk}
use Rattle.std.specs.Prelude.{flat_map}
use Rattle.std.proofs.lemmas.Bool.{cases_lt, eqb-true, eq-eqb}
use Rattle.std.proofs.lemmas.List.{drop_all}
use Rattle.rr_syntax.specs.declared.tree.Module.{Module}
use Rattle.rr_syntax.specs.declared.tree.Source.{Source}
use Rattle.rr_syntax.specs.Tree.{ModuleDeclaration, SourceText}
use Rattle.rr_syntax.specs.View.{plain_item, plain_module, plain_source}
use Rattle.rr_expr.specs.Scopes.{Names}
use Rattle.rr_flat.specs.Signals.{Text}
use Rattle.rr_change_places.specs.Spots.{Spot}
use Rattle.rr_literal.specs.Literals.{literal_at}
use Rattle.rr_guard.proofs.GuardLists.{guard_same}
use Rattle.rr_overwrite.proofs.Listed.{overwrites_same}
use Rattle.rr_overwrite.specs.Variables.{AreFit}
use Rattle.rr_clock.specs.Places.{Place}
use Rattle.rr_choice.specs.Sites.{Site}
use Rattle.rr_sites_listed.specs.Listing.{IsFitPlace, module_at, no_module, item_sites, module_sites, place_sites, scope_of, sites_by, sites_of}

-- three lists behind one another
pub three : {A : Type 0} (a b c d o g l : List A) → b ≡ a ++ o → c ≡ b ++ g → d ≡ c ++ l → d ≡ a ++ (o ++ (g ++ l))
three a b c d o g l x y z = z ∙ (ap (λ w. w ++ l) (y ∙ ap (λ w. w ++ g) x) ∙ (append_assoc (a ++ o) g l ∙ append_assoc a o (g ++ l)))

pub module_is : (m : Module) (owner : ℕ) (scope : Names) (clocks : List Text) → module_sites (plain_module m) owner scope clocks ≡ flat_map (λ x. item_sites (plain_module m) owner scope clocks x) (map plain_item m.items.now)
unfolding plain_module module_sites
module_is m owner scope clocks = refl

pub sites_are : (source : SourceText) (scopes : List Names) (owners : List ℕ) (places : List Place) → sites_of source scopes owners places ≡ flat_map (place_sites source scopes owners) places
unfolding sites_of
sites_are source scopes owners places = refl

-- the module of a place, where there is one
pub module_there : (ms : List Module) (k : ℕ) (d : Module) → k < length ms → module_at (map plain_module ms) k ≡ plain_module (get_or ms k d)
module_there [] k d l = absurd (omega (arith, l))
module_there (m ∷ ms) zero d l = refl
module_there (m ∷ ms) (suc k) d l = module_there ms k d (omega (arith, l))

pub module_gone : (ms : List Module) (k : ℕ) → length ms ≤ k → module_at (map plain_module ms) k ≡ no_module
module_gone [] k l = refl
module_gone (m ∷ ms) zero l = absurd (omega (arith, l))
module_gone (m ∷ ms) (suc k) l = module_gone ms k (omega (arith, l))

pub no_sites : (owner : ℕ) (scope : Names) (clocks : List Text) → module_sites no_module owner scope clocks ≡ []
unfolding module_sites
no_sites owner scope clocks = refl

-- the sites of a place, by what is found
pub none_there : (source : Source) (scopes : List Names) (owners : List ℕ) (p : Place) → length source.modules.now ≤ p.owner → place_sites (plain_source source) scopes owners p ≡ []
unfolding plain_source
none_there source scopes owners p l = ap (λ (m : ModuleDeclaration). module_sites m p.owner (scope_of scopes owners p.owner) p.clocks) (module_gone source.modules.now p.owner l) ∙ no_sites p.owner (scope_of scopes owners p.owner) p.clocks

pub found_there : (source : Source) (p : Place) (m : Module) → p.owner < length source.modules.now → m ≡ get_or source.modules.now p.owner m → plain_module m ≡ module_at (plain_source source).modules p.owner
unfolding plain_source
found_there source p m l e = ap plain_module e ∙ sym (module_there source.modules.now p.owner m l)

pub place_is : (source : Source) (scopes : List Names) (owners : List ℕ) (p : Place) (m : Module) (scope : Names) → plain_module m ≡ module_at (plain_source source).modules p.owner → scope ≡ scope_of scopes owners p.owner
    → module_sites (plain_module m) p.owner scope p.clocks ≡ place_sites (plain_source source) scopes owners p
place_is source scopes owners p m scope e f = ap₂ (λ (d : ModuleDeclaration) (s : Names). module_sites d p.owner s p.clocks) e f

pub modules_are : (source : Source) → (plain_source source).modules ≡ map plain_module source.modules.now
unfolding plain_source
modules_are source = refl

pub fit_there : (source : Source) (scopes : List Names) (owners : List ℕ) (p : Place) (m : Module) (scope : Names) → plain_module m ≡ module_at (plain_source source).modules p.owner → scope ≡ scope_of scopes owners p.owner
    → IsFitPlace (plain_source source) scopes owners p → AreFit (plain_module m) scope
fit_there source scopes owners p m scope e f h =
    subst (λ (d : ModuleDeclaration). AreFit d scope) (sym e) (subst (λ (s : Names). AreFit (module_at (plain_source source).modules p.owner) s) (sym f) h)

-- what is put behind a list, said another way
pub put_behind : {A E : Type 0} (r : Result A E) (next was added other : List Site) → added ≡ other → OnOk r (next ≡ was ++ added) → OnOk r (next ≡ was ++ other)
put_behind r next was added other e h = subst (λ (z : List Site). OnOk r (next ≡ was ++ z)) e h

-- the search for an instance
pub scope_here : (ss : List Names) (os : List ℕ) (i k : ℕ) (d : Names) (e : ℕ) → i < length ss → i < length os → get_or os i e ≡ k → get_or ss i d ≡ scope_of (drop i ss) (drop i os) k
unfolding scope_of
scope_here [] os i k d e a b h = absurd (omega (arith, a))
scope_here (s ∷ ss) [] i k d e a b h = absurd (omega (arith, b))
scope_here (s ∷ ss) (o ∷ os) zero k d e a b h = sym (ap (λ c. if c then s else scope_of ss os k) (eq-eqb o k h))
scope_here (s ∷ ss) (o ∷ os) (suc i) k d e a b h = scope_here ss os i k d e (omega (arith, a)) (omega (arith, b)) h

scope_next : (ss : List Names) (os : List ℕ) (i k : ℕ) (e : ℕ) → i < length ss → i < length os → (get_or os i e ≡ k → ⊥) → scope_of (drop (suc i) ss) (drop (suc i) os) k ≡ scope_of (drop i ss) (drop i os) k
unfolding scope_of
scope_next [] os i k e a b h = absurd (omega (arith, a))
scope_next (s ∷ ss) [] i k e a b h = absurd (omega (arith, b))
scope_next (s ∷ ss) (o ∷ os) zero k e a b h = go (nat_eq o k) refl
  where
    go : (c : Bool) → nat_eq o k ≡ c → scope_of ss os k ≡ (if c then s else scope_of ss os k)
    go true q = absurd (h (eqb-true o k q))
    go false q = refl
scope_next (s ∷ ss) (o ∷ os) (suc i) k e a b h = scope_next ss os i k e (omega (arith, a)) (omega (arith, b)) h

pub scope_on : (ss : List Names) (os : List ℕ) (i k : ℕ) (e : ℕ) → i < length ss → i < length os → (get_or os i e ≡ k → ⊥) → scope_of (drop (i + 1) ss) (drop (i + 1) os) k ≡ scope_of (drop i ss) (drop i os) k
scope_on ss os i k e a b h = rw add-one (scope_next ss os i k e a b h)

pub scope_end : (ss : List Names) (os : List ℕ) (i k : ℕ) → (length ss ≤ i → scope_of (drop i ss) (drop i os) k ≡ []) × (length os ≤ i → scope_of (drop i ss) (drop i os) k ≡ [])
unfolding scope_of
scope_end ss os i k = (
  (λ a. ap (λ (zs : List Names). scope_of zs (drop i os) k) (drop_all i ss a)),
  (λ b. ap (λ (zs : List ℕ). scope_of (drop i ss) zs k) (drop_all i os b) ∙ none (drop i ss)),
)
  where
    none : (zs : List Names) → scope_of zs [] k ≡ []
    none [] = refl
    none (z ∷ zs) = refl

pub scope_past : (ss : List Names) (os : List ℕ) (i k e : ℕ) → e ≡ min (length ss) (length os) → e ≤ i → scope_of (drop i ss) (drop i os) k ≡ []
scope_past ss os i k e m l = let ends = scope_end ss os i k in elim (cases_lt i (length ss)) [
  | inl a ↦ ends.1 (omega (arith, m, l, a))
  | inr b ↦ ends.0 (omega (arith, b))
]

-- sites by the names at each token
pub sites_same : (m : ModuleDeclaration) (owner : ℕ) (scope : Names) (f g : ℕ → List Text) → ((token : ℕ) → f token ≡ g token) → (s : Spot) → sites_by m owner scope f s ≡ sites_by m owner scope g s
sites_same m owner scope f g h s = ap₂ (λ os gs. os ++ (gs ++ literal_at s)) (overwrites_same m owner scope f g h s) (guard_same owner f g h s)
