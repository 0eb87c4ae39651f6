-- The guard sites of a module.
use Rattle.std.specs.Prelude.{ℕ, Bool, List, [], ◌∷◌, length, flat_map}
use Rattle.rr_syntax.specs.Expressions.{spell}
use Rattle.rr_syntax.specs.Tree.{ModuleDeclaration}
use Rattle.rr_expr.specs.Faults.{first}
use Rattle.rr_flat.specs.Signals.{Text}
use Rattle.rr_choice.specs.Sites as sites
use Rattle.rr_choice.specs.Sites.{Site, SiteKind}
use Rattle.rr_change_places.specs.Spots.{Spot, Body, Test, Value, is_clocked, spots_of_item}
use Rattle.rr_guard.specs.Names.{names_at}

-- a site that is a condition
abbrev pub IsGuard : SiteKind → Type 0
IsGuard (sites.Literal width signed) = ⊥
IsGuard (sites.Guard owner extent names) = Unit {0}
IsGuard (sites.Overwrite owner target width now names) = ⊥

-- the guard of a condition of the module with this number, where `names` tells the names at each token
abbrev pub guard_of : ℕ → (ℕ → List Text) → Spot → List Site
guard_of owner names (Body s) = []
guard_of owner names (Test t) = (record { kind = sites.Guard owner (length (spell t)) (names (first t)); token = first t }) ∷ []
guard_of owner names (Value token n) = []

-- the same with the names of the module's clock, in a clocked block or elsewhere
abbrev pub guard_at : ModuleDeclaration → ℕ → List Text → Bool → Spot → List Site
guard_at m owner clocks clocked spot = guard_of owner (names_at m clocks clocked) spot

-- in the order of the text
unfoldable pub guard_sites : ModuleDeclaration → ℕ → List Text → List Site
guard_sites m owner clocks = flat_map (λ x. flat_map (guard_at m owner clocks (is_clocked x)) (spots_of_item x)) m.items
