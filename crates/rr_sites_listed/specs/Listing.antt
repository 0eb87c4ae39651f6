-- The sites of a source: those of the modules that have instances, in the order of the text.
use Rattle.std.specs.Prelude.{ℕ, ◌<◌, Bool, List, [], ◌∷◌, ◌++◌, flat_map, get_or, nat_eq, if◌then◌else◌, None}
use Rattle.std.specs.List.{AllByRecursion}
use Rattle.rr_syntax.specs.Tree.{ModuleItem, ModuleDeclaration, SourceText}
use Rattle.rr_expr.specs.Scopes.{Names}
use Rattle.rr_flat.specs.Signals.{Text}
use Rattle.rr_choice.specs.Sites.{Site}
use Rattle.rr_change_places.specs.Spots.{Spot, is_clocked, spots_of_item}
use Rattle.rr_literal.specs.Literals.{literal_at}
use Rattle.rr_guard.specs.Guards.{guard_of}
use Rattle.rr_guard.specs.Names.{names_at}
use Rattle.rr_overwrite.specs.Overwrites.{overwrites_of}
use Rattle.rr_overwrite.specs.Variables.{AreFit}
use Rattle.rr_clock.specs.Places.{Place}

-- at a spot of the module with this number, where `names` tells the names at each token: overwrites before guards, and
-- guards before literals
abbrev pub sites_by : ModuleDeclaration → ℕ → Names → (ℕ → List Text) → Spot → List Site
sites_by m owner scope names spot = overwrites_of m owner scope names spot ++ (guard_of owner names spot ++ literal_at spot)

-- the same with the names of the module's clock, in a clocked block or elsewhere
abbrev pub sites_at : ModuleDeclaration → ℕ → Names → List Text → Bool → Spot → List Site
sites_at m owner scope clocks clocked spot = sites_by m owner scope (names_at m clocks clocked) spot

abbrev pub item_sites : ModuleDeclaration → ℕ → Names → List Text → ModuleItem → List Site
item_sites m owner scope clocks x = flat_map (sites_at m owner scope clocks (is_clocked x)) (spots_of_item x)

unfoldable pub module_sites : ModuleDeclaration → ℕ → Names → List Text → List Site
module_sites m owner scope clocks = flat_map (item_sites m owner scope clocks) m.items

-- a module by its number
abbrev pub no_module : ModuleDeclaration
no_module = record { text = []; token = 0; params = []; header = None; groups = []; items = [] }

abbrev pub module_at : List ModuleDeclaration → ℕ → ModuleDeclaration
module_at ms k = get_or ms k no_module

-- the names of the first instance of a module
unfoldable pub scope_of : List Names → List ℕ → ℕ → Names
scope_of [] owners k = []
scope_of (s ∷ ss) [] k = []
scope_of (s ∷ ss) (o ∷ os) k = if nat_eq o k then s else scope_of ss os k

abbrev pub place_sites : SourceText → List Names → List ℕ → Place → List Site
place_sites source scopes owners p = module_sites (module_at source.modules p.owner) p.owner (scope_of scopes owners p.owner) p.clocks

-- where each instance has its names and the number of its module, and each module that has instances the names of its clock
unfoldable pub sites_of : SourceText → List Names → List ℕ → List Place → List Site
sites_of source scopes owners places = flat_map (place_sites source scopes owners) places

-- in its first instance each variable of a place's module has 1 to 128 bits
abbrev pub IsFitPlace : SourceText → List Names → List ℕ → Place → Type 0
IsFitPlace source scopes owners p = AreFit (module_at source.modules p.owner) (scope_of scopes owners p.owner)

abbrev pub AreFitScopes : SourceText → List Names → List ℕ → List Place → Type 0
AreFitScopes source scopes owners places = AllByRecursion (IsFitPlace source scopes owners) places

-- places of modules of a source of n modules, in the order of the modules
unfoldable pub AreRising : ℕ → List Place → Type 0
AreRising n [] = Unit {0}
AreRising n (p ∷ ps) = (p.owner < n) × AllByRecursion (λ q. p.owner < q.owner) ps × AreRising n ps
