-- The order of sites: by first token; at one token an overwrite before a guard, an outer guard before an inner one, and guards
-- before a literal. And which sites these are: those of each kind that a module has, a literal at its number.
use Rattle.std.specs.Prelude.{◌≡◌, ◌⊎◌, ℕ, ◌<◌, Bool, true, false, List, [], ◌∷◌, length, filter}
use Rattle.std.specs.List.{AllByRecursion}
use Rattle.rr_syntax.specs.Items.{spell_source, WellFormedSource, NumberedSource}
use Rattle.rr_syntax.specs.Tree.{ModuleDeclaration, SourceText}
use Rattle.rr_syntax.specs.Words.{Word}
use Rattle.rr_expr.specs.Scopes.{Names}
use Rattle.rr_flat.specs.Signals.{Text}
use Rattle.rr_choice.specs.Places.{is_literal, is_overwrite}
use Rattle.rr_choice.specs.Sites as sites
use Rattle.rr_choice.specs.Sites.{SiteKind, Site}
use Rattle.rr_literal.specs.Literals.{literal_sites}
use Rattle.rr_guard.specs.Guards.{guard_sites}
use Rattle.rr_overwrite.specs.Overwrites.{overwrite_sites}
use Rattle.rr_clock.specs.Places.{Place}
use Rattle.rr_flat_instance.specs.Owned.{IsNumberAt}
use Rattle.rr_sites_listed.specs.Listing.{AreRising, module_sites, sites_of}

-- at one token; the outer of two conditions has more tokens, and overwrites of one block follow their own order
abbrev pub ComesFirst : SiteKind → SiteKind → Type 0
ComesFirst (sites.Overwrite owner target width now names) k = Unit {0}
ComesFirst (sites.Guard owner extent names) (sites.Overwrite other target width now more) = ⊥
ComesFirst (sites.Guard owner extent names) (sites.Guard other inner more) = inner < extent
ComesFirst (sites.Guard owner extent names) (sites.Literal width signed) = Unit {0}
ComesFirst (sites.Literal width signed) k = ⊥

abbrev pub Precedes : Site → Site → Type 0
Precedes a b = (a.token < b.token) ⊎ ((a.token ≡ b.token) × ComesFirst a.kind b.kind)

-- each before all that follow it
unfoldable pub InOrder : List Site → Type 0
InOrder [] = Unit {0}
InOrder (s ∷ ss) = AllByRecursion (Precedes s) ss × InOrder ss

-- the sites of a source are in this order
abbrev pub SitesAreInOrder : Type 0
SitesAreInOrder =
    (source : SourceText) (scopes : List Names) (owners : List ℕ) (places : List Place) → WellFormedSource source → NumberedSource source → AreRising (length source.modules) places →
    InOrder (sites_of source scopes owners places)

abbrev pub is_test : SiteKind → Bool
is_test (sites.Literal width signed) = false
is_test (sites.Guard owner extent names) = true
is_test (sites.Overwrite owner target width now names) = false

-- the sites of each kind among those of a module are its literal, guard and overwrite sites
pub record KindsAreAmong : Type 0 where
  pub literals : (m : ModuleDeclaration) (owner : ℕ) (scope : Names) (clocks : List Text) → filter (λ (s : Site). is_literal s.kind) (module_sites m owner scope clocks) ≡ literal_sites m
  pub guards : (m : ModuleDeclaration) (owner : ℕ) (scope : Names) (clocks : List Text) → filter (λ (s : Site). is_test s.kind) (module_sites m owner scope clocks) ≡ guard_sites m owner clocks
  pub overwrites : (m : ModuleDeclaration) (owner : ℕ) (scope : Names) (clocks : List Text) →
      filter (λ (s : Site). is_overwrite s.kind) (module_sites m owner scope clocks) ≡ overwrite_sites m owner scope clocks

-- at the token of a literal stands its number
abbrev pub IsSpelled : List Word → ℕ → SiteKind → Type 0
IsSpelled ws token (sites.Literal width signed) = IsNumberAt ws token width signed
IsSpelled ws token (sites.Guard owner extent names) = Unit {0}
IsSpelled ws token (sites.Overwrite owner target width now names) = Unit {0}

-- so it is with the words that spell the source
abbrev pub LiteralsAreSpelled : Type 0
LiteralsAreSpelled =
    (source : SourceText) (scopes : List Names) (owners : List ℕ) (places : List Place) → NumberedSource source → AreRising (length source.modules) places →
    AllByRecursion (λ (s : Site). IsSpelled (spell_source source) s.token s.kind) (sites_of source scopes owners places)
