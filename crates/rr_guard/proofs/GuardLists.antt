-- Guards by the names at each token.
use Rattle.std.proofs.Common.{◌≡◌, ap, ap₂, ℕ, List, [], ◌∷◌, ◌++◌, length, map, refl}
use Rattle.std.specs.Prelude.{flat_map}
use Rattle.rr_syntax.specs.declared.tree.Module.{Module}
use Rattle.rr_syntax.specs.Expressions.{spell}
use Rattle.rr_syntax.specs.View.{plain_item, plain_module}
use Rattle.rr_expr.specs.Faults.{first}
use Rattle.rr_flat.specs.Signals.{Text}
use Rattle.rr_choice.specs.Sites as sites
use Rattle.rr_choice.specs.Sites.{Site}
use Rattle.rr_change_places.specs.Spots.{Spot, Body, Test, Value, is_clocked, spots_of_item}
use Rattle.rr_guard.specs.Guards.{guard_of, guard_at, guard_sites}

pub flat_map_same : {X A : Type 0} (f g : X → List A) → ((x : X) → f x ≡ g x) → (xs : List X) → flat_map f xs ≡ flat_map g xs
flat_map_same f g h [] = refl
flat_map_same f g h (x ∷ xs) = ap₂ (λ a b. a ++ b) (h x) (flat_map_same f g h xs)

pub guard_same : (owner : ℕ) (f g : ℕ → List Text) → ((token : ℕ) → f token ≡ g token) → (s : Spot) → guard_of owner f s ≡ guard_of owner g s
guard_same owner f g h (Body s) = refl
guard_same owner f g h (Test t) = ap (λ (ns : List Text). (record { kind = sites.Guard owner (length (spell t)) ns; token = first t }) ∷ []) (h (first t))
guard_same owner f g h (Value token n) = refl

pub guards_are : (m : Module) (owner : ℕ) (clocks : List Text) → guard_sites (plain_module m) owner clocks ≡ flat_map (λ x. flat_map (guard_at (plain_module m) owner clocks (is_clocked x)) (spots_of_item x)) (map plain_item m.items.now)
unfolding plain_module guard_sites
guards_are m owner clocks = refl
