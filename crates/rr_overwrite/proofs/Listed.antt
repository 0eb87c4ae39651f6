-- The overwrites of a body, target by target.
use Rattle.std.proofs.Common.{◌≡◌, ◌∙◌, sym, ap, ℕ, IsTrue, Bool, true, false, not, cond, ◌&&◌, ◌||◌, if◌then◌else◌, List, [], ◌∷◌, ◌++◌, map, filter, refl}
use Rattle.std.specs.Prelude.{flat_map}
use Rattle.std.specs.List.{list_any}
use Rattle.rr_syntax.specs.declared.tree.Module.{Module}
use Rattle.rr_syntax.specs.Tree.{ModuleDeclaration}
use Rattle.rr_syntax.specs.View.{plain_item, plain_module}
use Rattle.rr_expr.specs.Faults.{is_width}
use Rattle.rr_expr.specs.Scopes.{Names}
use Rattle.rr_flat.specs.Signals.{Text}
use Rattle.rr_instance.specs.Firsts.{first_token}
use Rattle.rr_change_places.specs.Spots.{Spot, Body, Test, Value, is_clocked, spots_of_item}
use Rattle.rr_guard.specs.Candidates.{is_among}
use Rattle.rr_guard.proofs.Lists.{filter_same}
use Rattle.rr_overwrite.specs.declared.variables.Variables.{Variables}
use Rattle.rr_overwrite.specs.Overwrites.{Target, targets_of, is_variable, port_opens, item_opens, may_overwrite, width_in, overwrite_of, overwrites_of, overwrites_at, overwrite_sites}
use Rattle.rr_overwrite.specs.Variables.{AreFit, AreVariables, may_be}

pub map_filter : {X Y : Type 0} (f : X → Y) (p : X → Bool) (xs : List X) → flat_map (λ x. if p x then f x ∷ [] else []) xs ≡ map f (filter p xs)
map_filter f p [] = refl
map_filter {X} f p (x ∷ xs) = go (p x) (map_filter f p xs)
  where
    go : (b : Bool) → flat_map (λ y. if p y then f y ∷ [] else []) xs ≡ map f (filter p xs) → (if b then f x ∷ [] else []) ++ flat_map (λ y. if p y then f y ∷ [] else []) xs ≡ map f (cond b (x ∷ filter p xs) (filter p xs))
    go true r = ap (λ zs. f x ∷ zs) r
    go false r = r

neither : (a b : Bool) → not (a || b) ≡ (not a && not b)
neither true b = refl
neither false b = refl

may_same : (m : ModuleDeclaration) (v : Variables) → AreVariables m v → (t : Target) → may_be v t ≡ may_overwrite m t
may_same m v h t =
    ap (λ b. b && not (is_among t.text v.barred)) (h.declared t.text)
    ∙ (ap (λ b. is_variable m t.text && not b) (h.barred t.text)
    ∙ ap (λ b. is_variable m t.text && b) (neither (list_any (port_opens t.text) m.groups) (list_any (item_opens t.text) m.items)))

pub filter_is : (m : ModuleDeclaration) (v : Variables) → AreVariables m v → (ts : List Target) → filter (may_be v) ts ≡ filter (may_overwrite m) ts
filter_is m v h ts = filter_same (may_be v) (may_overwrite m) ts (may_same m v h)

pub overwrites_same : (m : ModuleDeclaration) (owner : ℕ) (scope : Names) (f g : ℕ → List Text) → ((token : ℕ) → f token ≡ g token) → (s : Spot) → overwrites_of m owner scope f s ≡ overwrites_of m owner scope g s
overwrites_same m owner scope f g h (Body s) = ap (λ (ns : List Text). map (overwrite_of owner scope ns s) (filter (may_overwrite m) (targets_of s))) (h (first_token s))
overwrites_same m owner scope f g h (Test t) = refl
overwrites_same m owner scope f g h (Value token n) = refl

pub overwrites_are : (m : Module) (owner : ℕ) (scope : Names) (clocks : List Text)
    → overwrite_sites (plain_module m) owner scope clocks ≡ flat_map (λ x. flat_map (overwrites_at (plain_module m) owner scope clocks (is_clocked x)) (spots_of_item x)) (map plain_item m.items.now)
unfolding plain_module overwrite_sites
overwrites_are m owner scope clocks = refl

-- the condition on widths, by what is kept
pub fit_kept : (m : ModuleDeclaration) (v : Variables) (scope : Names) → AreVariables m v → AreFit m scope → (name : Text) → is_among name v.declared ≡ true → IsTrue (is_width (width_in scope name))
fit_kept m v scope h f name e = f name (sym (h.declared name) ∙ e)
