-- The sites that are listed for a lawful design are such as the laws of its instances ask, and its places and scopes are such
-- as the listing asks.
use Rattle.std.specs.Prelude.{◌≡◌, ℕ, ◌<◌, Bool, List, length, Option, Ok}
use Rattle.std.specs.List.{Contains}
use Rattle.rr_syntax.specs.Items.{WellFormedSource, NumberedSource}
use Rattle.rr_syntax.specs.Tree.{SourceText}
use Rattle.rr_expr.specs.Scopes.{Names}
use Rattle.rr_flat.specs.Clocks.{OneClock, NameLeads}
use Rattle.rr_flat.specs.Lawful.{RightTargets}
use Rattle.rr_flat.specs.Plain.{Flat}
use Rattle.rr_flat.specs.Signals.{Text}
use Rattle.rr_flatten.specs.Walk.{flat_of}
use Rattle.rr_flat_instance.specs.Owned.{AreListed}
use Rattle.rr_lawful_instance.specs.AreSites.{IsClock}
use Rattle.rr_lawful_instance.specs.Listed.{AreRight}
use Rattle.rr_clock.specs.Places.{Place, ArePlaces, owner_at}
use Rattle.rr_sites_listed.specs.Listing.{AreFitScopes, AreRising, sites_of}

-- a place has each name that leads to the clock in an instance of its module
abbrev pub HasClocks : Flat → Option Text → Place → Type 0
HasClocks flat word p =
    (i : ℕ) → i < length flat.scopes → owner_at flat i ≡ p.owner → (clock : ℕ) → IsClock flat word clock → (name : Text) → NameLeads flat clock i name → Contains p.clocks name

-- what a lister is given: a source whose leaves have the numbers of their tokens, its flat design, whose targets are right,
-- its one clock, and the modules that have instances, each with the names that lead there
pub record IsGiven (source : SourceText) (top : Option Text) (flat : Flat) (word : Option Text) (clock : Option ℕ) (rising : Bool) (places : List Place) : Type 0 where
  pub formed : WellFormedSource source
  pub numbered : NumberedSource source
  pub design : flat_of source top ≡ Ok flat
  pub targets : RightTargets flat
  pub one_clock : OneClock flat word clock rising
  pub told : ArePlaces flat clock places

-- each site stands in an item of its module; its names may be guards there in each instance of the module; and what an
-- overwrite assigns is a target there, of its width in each instance
abbrev pub SitesAreRight : Type 0
SitesAreRight =
    (source : SourceText) (top : Option Text) (flat : Flat) (word : Option Text) (clock : Option ℕ) (rising : Bool) (places : List Place) → IsGiven source top flat word clock rising places →
    AreRight source flat word (sites_of source flat.scopes flat.owners places)

abbrev pub SitesAreListed : Type 0
SitesAreListed =
    (source : SourceText) (top : Option Text) (flat : Flat) (word : Option Text) (clock : Option ℕ) (rising : Bool) (places : List Place) → IsGiven source top flat word clock rising places →
    AreListed (sites_of source flat.scopes flat.owners places) source flat

-- each variable of a module that has an instance has 1 to 128 bits in the first one
abbrev pub ScopesAreFit : Type 0
ScopesAreFit =
    (source : SourceText) (top : Option Text) (flat : Flat) (clock : Option ℕ) (places : List Place) → flat_of source top ≡ Ok flat → ArePlaces flat clock places →
    AreFitScopes source flat.scopes flat.owners places

-- the places stand in the order of the modules
abbrev pub PlacesRise : Type 0
PlacesRise =
    (source : SourceText) (top : Option Text) (flat : Flat) (clock : Option ℕ) (places : List Place) → flat_of source top ≡ Ok flat → ArePlaces flat clock places → AreRising (length source.modules) places

-- a design has one list of sites: the order of a place's names does not matter
abbrev pub OneList : Type 0
OneList =
    (source : SourceText) (scopes : List Names) (owners : List ℕ) (flat : Flat) (clock : Option ℕ) (ps qs : List Place) → ArePlaces flat clock ps → ArePlaces flat clock qs →
    sites_of source scopes owners ps ≡ sites_of source scopes owners qs
