-- A source in which some modules have other bodies in each `always` without edges, and its flat design, in which loops are unfolded.
use Rattle.std.specs.Prelude.{ℕ, ◌+◌, ◌<◌, ◌≡◌, ◌⊎◌, List, [], ◌∷◌, length, map, Option, Ok, nat_eq, if◌then◌else◌}
use Rattle.std.specs.List.{list_any}
use Rattle.rr_syntax.specs.Tree.{Statement, EventControl, Star, Edges, Levels, ModuleItem, Ports, Nets, Variables, Integers, Parameters, Assigns, Always, Initial, Instances, ModuleDeclaration, SourceText}
use Rattle.rr_expr.specs.Scopes.{Names, meant}
use Rattle.rr_flat.specs.Plain.{Block, Flat}
use Rattle.rr_flat.specs.Shapes.{statement_faults}
use Rattle.rr_flat.specs.Signals.{Text}
use Rattle.rr_flat.specs.Writers.{scope_at}
use Rattle.rr_loop_rules.specs.Rules.{LoopNames, loops_in, loop_faults}
use Rattle.rr_unfold.specs.Unfold.{Count, counted, unfold_statement}
use Rattle.rr_flat_laws.specs.Names.{module_of}

-- the new body of the `always` with this token and this body
abbrev pub Bodies : Type 0
Bodies = ℕ → Statement → Statement

-- the body of an `always` that waits for no edge (IEEE 1364-2005 sections 9.7.2 and 9.7.5)
abbrev pub body_with : Bodies → EventControl → Statement → ℕ → Statement
body_with f (Star brackets) body token = f token body
body_with f (Edges list commas) body token = body
body_with f (Levels list commas) body token = f token body

unfoldable pub item_with : Bodies → ModuleItem → ModuleItem
item_with f (Ports p) = Ports p
item_with f (Nets signed range list) = Nets signed range list
item_with f (Variables signed range list) = Variables signed range list
item_with f (Integers list) = Integers list
item_with f (Parameters p) = Parameters p
item_with f (Assigns pairs) = Assigns pairs
item_with f (Always events body token) = Always events (body_with f events body token) token
item_with f (Initial body token) = Initial body token
item_with f (Instances m token overrides list) = Instances m token overrides list

unfoldable pub module_with : Bodies → ModuleDeclaration → ModuleDeclaration
module_with f m = record m { items = map (item_with f) m.items }

-- of the modules with these numbers, where the first has number k
unfoldable pub modules_with : List ℕ → Bodies → ℕ → List ModuleDeclaration → List ModuleDeclaration
modules_with numbers f k [] = []
modules_with numbers f k (m ∷ ms) = (if list_any (nat_eq k) numbers then module_with f m else m) ∷ modules_with numbers f (k + 1) ms

unfoldable pub source_with : List ℕ → Bodies → SourceText → SourceText
source_with numbers f s = record s { modules = modules_with numbers f 0 s.modules }

-- an item is one of a list
unfoldable pub IsAmong : ModuleItem → List ModuleItem → Type 0
IsAmong x [] = ⊥
IsAmong x (y ∷ ys) = (y ≡ x) ⊎ IsAmong x ys

-- What a new body keeps, in a scope and where the module's loops have these names: its loops have as many turns with as many tokens
-- (IEEE 1364-2005 section 9.6), the names of loops stand in loops alone, and each expression has its shape.
pub record KeepsBody (L : LoopNames) (names : Names) (old new : Statement) : Type 0 where
  pub counts : (limit : Option ℕ) (c d : Count) → counted limit L names [] old c ≡ Ok d → counted limit L names [] new c ≡ Ok d
  pub loops : loop_faults L [] old ≡ [] → loop_faults L [] new ≡ []
  pub shapes : statement_faults names (unfold_statement names [] old) ≡ [] → statement_faults names (unfold_statement names [] new) ≡ []

-- each new body has loops of the same names, and each `always` of an instance keeps what it had, in a scope in which each name means
-- what it means in the instance
pub record KeepsBodies (f : Bodies) (source : SourceText) (flat : Flat) : Type 0 where
  pub loops : (token : ℕ) (body : Statement) → loops_in (f token body) ≡ loops_in body
  pub bodies : (i : ℕ) (names : Names) (events : EventControl) (body : Statement) (token : ℕ) → i < length flat.owners → IsAmong (Always events body token) (module_of source flat i).items
      → ((name : Text) → meant names name ≡ meant (scope_at flat i) name) → (L : LoopNames) → KeepsBody L names body (f token body)

-- A combinational block of a flat design, and the one in its place in that of the changed source: the body of an `always` of the module
-- of its instance, and the new body, each with its loops unfolded. A loop with no turn in the instance leaves nothing of its body, so
-- that the block does not tell the body.
pub record IsChanged (f : Bodies) (source : SourceText) (flat : Flat) (old new : Block) : Type 0 where
  pub there : old.scope < length flat.owners
  pub events : EventControl
  pub body : Statement
  pub among : IsAmong (Always events body old.token) (module_of source flat old.scope).items
  pub names : Names
  pub alike : (name : Text) → meant names name ≡ meant (scope_at flat old.scope) name
  pub was : old.body ≡ unfold_statement names [] body
  pub is : new ≡ record old { body = unfold_statement names [] (f old.token body) }

-- one by one
unfoldable pub AllChanged : Bodies → SourceText → Flat → List Block → List Block → Type 0
AllChanged f source flat [] [] = Unit {0}
AllChanged f source flat [] (y ∷ ys) = ⊥
AllChanged f source flat (x ∷ xs) [] = ⊥
AllChanged f source flat (x ∷ xs) (y ∷ ys) = IsChanged f source flat x y × AllChanged f source flat xs ys

-- a flat design with such blocks, and else the same
pub record IsFlatWith (f : Bodies) (source : SourceText) (flat new : Flat) : Type 0 where
  pub blocks : AllChanged f source flat flat.combinational new.combinational
  pub others : new ≡ record flat { combinational = new.combinational }
