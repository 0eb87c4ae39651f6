-- The order of sites: by first token; at one token overwrites before guards, an outer guard before an inner one, and guards
-- before a literal; and the overwrites of one block by the first targets of their variables.
use Rattle.std.specs.Prelude.{◌≡◌, ◌⊎◌, ℕ, ◌<◌, Bool, List, [], ◌∷◌, Contains}
use Rattle.std.specs.List.{AllByRecursion}
use Rattle.rr_syntax.specs.Tree.{Statement, EventControl, Always, ModuleDeclaration, SourceText}
use Rattle.rr_flat.specs.Signals.{Text}
use Rattle.rr_instance.specs.Firsts.{first_token}
use Rattle.rr_choice.specs.Sites as sites
use Rattle.rr_choice.specs.Sites.{SiteKind, Site}
use Rattle.rr_sites_listed.specs.Listing.{module_at}
use Rattle.rr_sites_complete.specs.Targets.{IsFirstTarget}

-- a variable first stands outside loops as a whole as a target before another one does, in the body of an `always` that begins
-- at the token
pub record TargetsRise (m : ModuleDeclaration) (token : ℕ) (name next : Text) : Type 0 where
  pub events : EventControl
  pub body : Statement
  pub always : ℕ
  pub there : Contains m.items (Always events body always)
  pub begins : first_token body ≡ token
  pub target : ℕ
  pub now : Bool
  pub is_target : IsFirstTarget body name target now
  pub later : ℕ
  pub later_now : Bool
  pub is_later : IsFirstTarget body next later later_now
  pub before : target < later

-- at one token; the outer of two conditions has more tokens
abbrev pub KindPrecedes : List ModuleDeclaration → ℕ → SiteKind → SiteKind → Type 0
KindPrecedes ms token (sites.Overwrite owner name width now names) (sites.Overwrite other next wide later more) = TargetsRise (module_at ms owner) token name next
KindPrecedes ms token (sites.Overwrite owner name width now names) (sites.Guard other extent more) = Unit {0}
KindPrecedes ms token (sites.Overwrite owner name width now names) (sites.Literal wide signed) = Unit {0}
KindPrecedes ms token (sites.Guard owner extent names) (sites.Overwrite other next wide later more) = ⊥
KindPrecedes ms token (sites.Guard owner extent names) (sites.Guard other inner more) = inner < extent
KindPrecedes ms token (sites.Guard owner extent names) (sites.Literal wide signed) = Unit {0}
KindPrecedes ms token (sites.Literal width signed) k = ⊥

abbrev pub ComesBefore : SourceText → Site → Site → Type 0
ComesBefore source a b = (a.token < b.token) ⊎ ((a.token ≡ b.token) × KindPrecedes source.modules a.token a.kind b.kind)

-- each before all that follow it
unfoldable pub Ordered : {X : Type 0} → (X → X → Type 0) → List X → Type 0
Ordered R [] = Unit {0}
Ordered R (x ∷ xs) = AllByRecursion (R x) xs × Ordered R xs
