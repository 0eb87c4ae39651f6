-- What the sites of a source bring into its modules: names of guards, and targets of last assignments.
use Rattle.std.specs.Prelude.{◌≡◌, ◌⊎◌, ℕ, ◌<◌, true, false, List, [], ◌∷◌, length, Option, Some, None, IsTrue, slice_index_or}
use Rattle.std.specs.List.{AllByRecursion}
use Rattle.rr_syntax.specs.Expressions.{is_target}
use Rattle.rr_syntax.specs.Tree.{Tree, DeclaredName, NetAssignment, NamedConnection, Connections, Positions, Names as Named, ModuleInstance, ModuleItem, Ports, Nets, Variables, Integers, Parameters, Assigns, Always, Initial, Instances, ModuleDeclaration, SourceText}
use Rattle.rr_expr.specs.Faults.{first, is_width}
use Rattle.rr_expr.specs.Scopes.{Names, meant, entity_shape}
use Rattle.rr_flat.specs.Plain.{Side, Written, Whole, Flat}
use Rattle.rr_flat.specs.Targets.{is_memory}
use Rattle.rr_flatten.specs.Walk.{module_at}
use Rattle.rr_flat.specs.Writers.{scope_at, driver_at}
use Rattle.rr_instance.specs.Firsts.{first_token}
use Rattle.rr_choice.specs.Places.{is_overwrite_at}
use Rattle.rr_choice.specs.Sites as sites
use Rattle.rr_choice.specs.Sites.{SiteKind, Site}
use Rattle.rr_instance_laws.specs.Tests.{IsGuardName, IsGuardNameIn, IsBodyName}
use Rattle.rr_instance_laws.specs.Truth.{IsScalar}
use Rattle.rr_loop_rules.specs.Rules.{LoopNames, contains, loop_names}
use Rattle.rr_unfold_instance.specs.Apart.{NamesStayOf}

-- it holds of an element
unfoldable pub Somewhere : {X : Type 0} → (X → Type 0) → List X → Type 0
Somewhere P [] = ⊥
Somewhere P (x ∷ xs) = P x ⊎ Somewhere P xs

-- a name that a guard may be in an item, or that the condition of a last assignment may be
abbrev pub IsNameOfValue : List Site → Option Tree → List ℕ → Type 0
IsNameOfValue ss None name = ⊥
IsNameOfValue ss (Some t) name = IsGuardName ss t name

abbrev pub IsNameOfNet : List Site → List ℕ → DeclaredName → Type 0
IsNameOfNet ss name n = IsNameOfValue ss n.value name

abbrev pub IsNameOfPair : List Site → List ℕ → NetAssignment → Type 0
IsNameOfPair ss name p = IsGuardName ss p.value name

abbrev pub IsNameOfConnection : List Site → List ℕ → NamedConnection → Type 0
IsNameOfConnection ss name c = IsNameOfValue ss c.value name

unfoldable pub IsNameOfConnections : List Site → List ℕ → Connections → Type 0
IsNameOfConnections ss name (Positions ts) = IsGuardNameIn ss ts name
IsNameOfConnections ss name (Named list) = Somewhere (IsNameOfConnection ss name) list

abbrev pub IsNameOfInstance : List Site → List ℕ → ModuleInstance → Type 0
IsNameOfInstance ss name x = IsNameOfConnections ss name x.connections

unfoldable pub IsNameOfItem : List Site → List ℕ → ModuleItem → Type 0
IsNameOfItem ss name (Ports p) = ⊥
IsNameOfItem ss name (Nets signed range list) = Somewhere (IsNameOfNet ss name) list
IsNameOfItem ss name (Variables signed range list) = ⊥
IsNameOfItem ss name (Integers list) = ⊥
IsNameOfItem ss name (Parameters p) = ⊥
IsNameOfItem ss name (Assigns pairs) = Somewhere (IsNameOfPair ss name) pairs
IsNameOfItem ss name (Always events body token) = IsBodyName ss (first_token body) body name
IsNameOfItem ss name (Initial body token) = ⊥
IsNameOfItem ss name (Instances m token overrides list) = Somewhere (IsNameOfInstance ss name) list

-- a variable of that width that a last assignment may have as its target
abbrev pub IsAim : SiteKind → List ℕ → ℕ → Type 0
IsAim (sites.Literal width signed) target w = ⊥
IsAim (sites.Guard owner extent names) target w = ⊥
IsAim (sites.Overwrite owner text width now names) target w = (text ≡ target) × (width ≡ w)

-- in the body of an `always` whose first token is given
unfoldable pub IsAimAt : List Site → ℕ → List ℕ → ℕ → Type 0
IsAimAt [] token target w = ⊥
IsAimAt (s ∷ ss) token target w = ((is_overwrite_at token s ≡ true) × IsAim s.kind target w) ⊎ IsAimAt ss token target w

unfoldable pub IsAimOfItem : List Site → List ℕ → ℕ → ModuleItem → Type 0
IsAimOfItem ss target w (Ports p) = ⊥
IsAimOfItem ss target w (Nets signed range list) = ⊥
IsAimOfItem ss target w (Variables signed range list) = ⊥
IsAimOfItem ss target w (Integers list) = ⊥
IsAimOfItem ss target w (Parameters p) = ⊥
IsAimOfItem ss target w (Assigns pairs) = ⊥
IsAimOfItem ss target w (Always events body token) = IsAimAt ss (first_token body) target w
IsAimOfItem ss target w (Initial body token) = ⊥
IsAimOfItem ss target w (Instances m token overrides list) = ⊥

-- a name of that width, which is 1 to 128; a memory is assigned by its words alone
pub record HasWidth (names : Names) (name : List ℕ) (w : ℕ) : Type 0 where
  pub shape : (entity_shape (meant names name)).width ≡ w
  pub width : is_width w ≡ true
  pub single : is_memory (meant names name) ≡ false

-- in the body of an `always` no literal site has the token of a name
unfoldable pub NamesStayOfItem : List Site → ModuleItem → Type 0
NamesStayOfItem ss (Ports p) = Unit {0}
NamesStayOfItem ss (Nets signed range list) = Unit {0}
NamesStayOfItem ss (Variables signed range list) = Unit {0}
NamesStayOfItem ss (Integers list) = Unit {0}
NamesStayOfItem ss (Parameters p) = Unit {0}
NamesStayOfItem ss (Assigns pairs) = Unit {0}
NamesStayOfItem ss (Always events body token) = NamesStayOf ss body
NamesStayOfItem ss (Initial body token) = Unit {0}
NamesStayOfItem ss (Instances m token overrides list) = Unit {0}

-- in a scope each name that a guard may be is that of a signal without a range, and each target has its site's width; neither
-- is a name of a loop of the module
pub record FitsItem (ss : List Site) (loops : LoopNames) (names : Names) (i : ModuleItem) : Type 0 where
  pub guards : (name : List ℕ) → IsNameOfItem ss name i → IsScalar names name
  pub aims : (target : List ℕ) (w : ℕ) → IsAimOfItem ss target w i → HasWidth names target w
  pub free_guards : (name : List ℕ) → IsNameOfItem ss name i → contains loops name ≡ false
  pub free_aims : (target : List ℕ) (w : ℕ) → IsAimOfItem ss target w i → contains loops target ≡ false
  pub stays : NamesStayOfItem ss i

abbrev pub FitsModule : List Site → Names → ModuleDeclaration → Type 0
FitsModule ss names m = AllByRecursion (FitsItem ss (loop_names m) names) m.items

-- the name of a net is another token than the first of its value
abbrev pub IsApart : DeclaredName → Type 0
IsApart n = (t : Tree) → n.value ≡ Some t → n.token ≡ first t → ⊥

unfoldable pub NetsApartIn : ModuleItem → Type 0
NetsApartIn (Ports p) = Unit {0}
NetsApartIn (Nets signed range list) = AllByRecursion IsApart list
NetsApartIn (Variables signed range list) = Unit {0}
NetsApartIn (Integers list) = Unit {0}
NetsApartIn (Parameters p) = Unit {0}
NetsApartIn (Assigns pairs) = Unit {0}
NetsApartIn (Always events body token) = Unit {0}
NetsApartIn (Initial body token) = Unit {0}
NetsApartIn (Instances m token overrides list) = Unit {0}

abbrev pub NetsApart : ModuleDeclaration → Type 0
NetsApart m = AllByRecursion NetsApartIn m.items

-- what is driven may be assigned
abbrev pub MayBeDriven : Side → Type 0
MayBeDriven (Written t i) = IsTrue (is_target t)
MayBeDriven (Whole id) = Unit {0}

abbrev pub owner_at : Flat → ℕ → ℕ
owner_at flat i = slice_index_or flat.owners i 0

-- each site fits each instance of the module in which it stands
pub record SitesFit (ss : List Site) (source : SourceText) (flat : Flat) : Type 0 where
  pub scopes : (i : ℕ) → i < length flat.scopes → FitsModule ss (scope_at flat i) (module_at source.modules (owner_at flat i))
  pub targets : (k : ℕ) → k < length flat.drivers → MayBeDriven (driver_at flat k).target
  pub nets : AllByRecursion NetsApart source.modules
