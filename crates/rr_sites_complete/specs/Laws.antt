-- The laws of the list of sites: it has exactly the sites of the source, in their order, each once.
use Rattle.std.specs.Prelude.{◌≡◌, ℕ, ◌<◌, Bool, List, length, get_or, Contains}
use Rattle.rr_syntax.specs.Items.{spell_source, WellFormedModule, NumberedModule, WellFormedSource, NumberedSource}
use Rattle.rr_syntax.specs.Tree.{ModuleDeclaration, SourceText}
use Rattle.rr_expr.specs.Scopes.{Names}
use Rattle.rr_flat.specs.Signals.{Text}
use Rattle.rr_choice.specs.Sites.{Site}
use Rattle.rr_guard.specs.Names.{names_at}
use Rattle.rr_clock.specs.Places.{Place}
use Rattle.rr_sites_listed.specs.Listing.{AreRising, sites_of}
use Rattle.rr_sites_complete.specs.GuardNames.{AreNamesAt}
use Rattle.rr_sites_complete.specs.Kinds.{IsSite}
use Rattle.rr_sites_complete.specs.Order.{ComesBefore, Ordered}
use Rattle.rr_sites_complete.specs.Spelled.{IsSpelled}

-- a source that is well-formed and whose leaves have the numbers of their tokens, with places of its modules in their order
pub record IsGiven (source : SourceText) (places : List Place) : Type 0 where
  pub formed : WellFormedSource source
  pub numbered : NumberedSource source
  pub rising : AreRising (length source.modules) places

-- each site that is listed is one
abbrev pub ListedAreSites : Type 0
ListedAreSites = (source : SourceText) (scopes : List Names) (owners : List ℕ) (places : List Place) → IsGiven source places → (s : Site) → Contains (sites_of source scopes owners places) s → IsSite source scopes owners places s

-- each site is listed
abbrev pub SitesAreListed : Type 0
SitesAreListed = (source : SourceText) (scopes : List Names) (owners : List ℕ) (places : List Place) → IsGiven source places → (s : Site) → IsSite source scopes owners places s → Contains (sites_of source scopes owners places) s

-- they are listed in their order
abbrev pub SitesRise : Type 0
SitesRise = (source : SourceText) (scopes : List Names) (owners : List ℕ) (places : List Place) → IsGiven source places → Ordered (ComesBefore source) (sites_of source scopes owners places)

-- and none is listed twice
abbrev pub SitesStandOnce : Type 0
SitesStandOnce =
    (source : SourceText) (scopes : List Names) (owners : List ℕ) (places : List Place) → IsGiven source places → (j k : ℕ) (d : Site) →
    j < k → k < length (sites_of source scopes owners places) → get_or (sites_of source scopes owners places) j d ≡ get_or (sites_of source scopes owners places) k d → ⊥

-- the names that a guard may be at a token are one list, which is the one that is listed
abbrev pub NamesAreThese : Type 0
NamesAreThese =
    (m : ModuleDeclaration) (at : ℕ) → WellFormedModule m → NumberedModule m at → (clocks : List Text) (clocked : Bool) (token : ℕ) (names : List Text) →
    AreNamesAt m clocks clocked token (names_at m clocks clocked token) × (AreNamesAt m clocks clocked token names → names ≡ names_at m clocks clocked token)

-- at the token of a site its words stand in the source
abbrev pub SitesAreSpelled : Type 0
SitesAreSpelled =
    (source : SourceText) (scopes : List Names) (owners : List ℕ) (places : List Place) → IsGiven source places → (s : Site) → (h : IsSite source scopes owners places s) → IsSpelled (spell_source source) h.is
