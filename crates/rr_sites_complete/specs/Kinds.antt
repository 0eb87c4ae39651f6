-- The sites of a source, place by place.
use Rattle.std.specs.Prelude.{◌≡◌, ℕ, Bool, List, length, Contains}
use Rattle.rr_syntax.specs.declared.token.Number.{Number}
use Rattle.rr_syntax.specs.Expressions.{spell}
use Rattle.rr_syntax.specs.Tree.{Tree, Literal, Statement, EventControl, ModuleItem, Always, ModuleDeclaration, SourceText}
use Rattle.rr_expr.specs.Faults.{first}
use Rattle.rr_expr.specs.Scopes.{Names}
use Rattle.rr_flat.specs.Signals.{Text}
use Rattle.rr_instance.specs.Firsts.{first_token}
use Rattle.rr_choice.specs.Sites as sites
use Rattle.rr_choice.specs.Sites.{Site}
use Rattle.rr_change_places.specs.Spots.{has_edges, is_clocked}
use Rattle.rr_overwrite.specs.Overwrites.{width_in}
use Rattle.rr_clock.specs.Places.{Place}
use Rattle.rr_sites_listed.specs.Listing.{module_at, scope_of}
use Rattle.rr_sites_complete.specs.Places.{Stands, IsTest}
use Rattle.rr_sites_complete.specs.Declarations.{IsVariable, IsPlain}
use Rattle.rr_sites_complete.specs.Targets.{IsFirstTarget}
use Rattle.rr_sites_complete.specs.GuardNames.{AreNamesAt}

-- a literal without x and z digits stands there; width and sign are its own
pub record IsLiteralSite (m : ModuleDeclaration) (s : Site) : Type 0 where
  pub item : ModuleItem
  pub there : Contains m.items item
  pub number : Number
  pub stands : Stands (Literal s.token number) item
  pub no_z : number.any ≡ 0
  pub no_x : number.unknown ≡ 0
  pub kind : s.kind ≡ sites.Literal number.width number.signed

-- the condition of an `if` in an `always` or the test of a `?:` begins there, with its number of tokens and the names that a
-- guard may be there
pub record IsGuardSite (m : ModuleDeclaration) (owner : ℕ) (clocks : List Text) (s : Site) : Type 0 where
  pub item : ModuleItem
  pub there : Contains m.items item
  pub test : Tree
  pub stands : IsTest test item
  pub token : s.token ≡ first test
  pub names : List Text
  pub names_are : AreNamesAt m clocks (is_clocked item) (first test) names
  pub kind : s.kind ≡ sites.Guard owner (length (spell test)) names

-- the body of an `always` begins there, and a variable that is no `integer` and has no range that names a parameter stands in
-- it outside loops as a whole as a target, first by this kind
pub record IsOverwriteSite (m : ModuleDeclaration) (owner : ℕ) (scope : Names) (clocks : List Text) (s : Site) : Type 0 where
  pub events : EventControl
  pub body : Statement
  pub always : ℕ
  pub there : Contains m.items (Always events body always)
  pub name : Text
  pub target : ℕ
  pub now : Bool
  pub is_target : IsFirstTarget body name target now
  pub variable : IsVariable m name
  pub plain : IsPlain m name
  pub token : s.token ≡ first_token body
  pub names : List Text
  pub names_are : AreNamesAt m clocks (has_edges events) (first_token body) names
  pub kind : s.kind ≡ sites.Overwrite owner name (width_in scope name) now names

-- a site of a module, by its number, the names of one of its instances, and those that are the clock in one
pub data IsSiteOf (m : ModuleDeclaration) (owner : ℕ) (scope : Names) (clocks : List Text) (s : Site) : Type 0 where
  literal : IsLiteralSite m s → IsSiteOf m owner scope clocks s
  guard : IsGuardSite m owner clocks s → IsSiteOf m owner scope clocks s
  overwrite : IsOverwriteSite m owner scope clocks s → IsSiteOf m owner scope clocks s

-- a site of a module that has an instance
pub record IsSite (source : SourceText) (scopes : List Names) (owners : List ℕ) (places : List Place) (s : Site) : Type 0 where
  pub place : Place
  pub reached : Contains places place
  pub is : IsSiteOf (module_at source.modules place.owner) place.owner (scope_of scopes owners place.owner) place.clocks s
