-- The places of a source that a repair may change, as plain data without addresses.
use Rattle.std.specs.Prelude.{ℕ, ◌<◌, ◌≤◌, Bool, List, [], length, take, drop}
use Rattle.std.specs.List.{All}
use Rattle.std.specs.List.Sorted.{IsNonDecreasingBy}

-- a literal of a width and a sign, whose value may change; a condition that spans a number of tokens, which a guard may
-- change; or a variable of a width, by a last assignment, which is one by `=` where the Bool is true. A condition and a
-- variable have the number of their module in its source and the names that a guard may be.
pub data SiteKind : Type 0 where
  Literal : ℕ → Bool → SiteKind
  Guard : ℕ → ℕ → List (List ℕ) → SiteKind
  Overwrite : ℕ → List ℕ → ℕ → Bool → List (List ℕ) → SiteKind

-- a place, and the number of its first token
pub record Site : Type 0 where
  pub kind : SiteKind
  pub token : ℕ

-- the names that a guard may be
abbrev pub guard_names : SiteKind → List (List ℕ)
guard_names (Literal width signed) = []
guard_names (Guard owner extent names) = names
guard_names (Overwrite owner target width now names) = names

-- the width of the new value; a condition has none
abbrev pub value_width : SiteKind → ℕ
value_width (Literal width signed) = width
value_width (Guard owner extent names) = 0
value_width (Overwrite owner target width now names) = width

-- the number of the last form, and of the bits that write a form
abbrev pub last_form : SiteKind → ℕ
last_form (Literal width signed) = 0
last_form (Guard owner extent names) = 4
last_form (Overwrite owner target width now names) = 2

abbrev pub form_width : SiteKind → ℕ
form_width (Literal width signed) = 0
form_width (Guard owner extent names) = 3
form_width (Overwrite owner target width now names) = 2

-- each site has at most 64 names
abbrev pub FewNames : List Site → Type 0
FewNames sites = All (λ s. length (guard_names s.kind) ≤ 64) sites

-- a site with a width of 1 to 128, where it has one, and with at most 64 names
abbrev pub HasWidth : SiteKind → Type 0
HasWidth (Literal width signed) = (0 < width) × (width ≤ 128)
HasWidth (Guard owner extent names) = Unit {0}
HasWidth (Overwrite owner target width now names) = (0 < width) × (width ≤ 128)

pub record IsSite (s : Site) : Type 0 where
  pub width : HasWidth s.kind
  pub names : length (guard_names s.kind) ≤ 64

-- a list of such sites, in the order of their first tokens
pub record IsSiteList (sites : List Site) : Type 0 where
  pub each : All IsSite sites
  pub rising : IsNonDecreasingBy (λ (s : Site). s.token) sites

-- the place of the first site that begins at a token or behind it, or the number of sites where there is none
pub record IsFirstAt (sites : List Site) (token k : ℕ) : Type 0 where
  pub within : k ≤ length sites
  pub before : All (λ (s : Site). s.token < token) (take k sites)
  pub behind : All (λ (s : Site). token ≤ s.token) (drop k sites)

-- a variable has 1 to 128 bits
abbrev pub HasFitWidth : SiteKind → Type 0
HasFitWidth (Literal width signed) = Unit {0}
HasFitWidth (Guard owner extent names) = Unit {0}
HasFitWidth (Overwrite owner target width now names) = (0 < width) × (width ≤ 128)

abbrev pub FitWidths : List Site → Type 0
FitWidths sites = All (λ s. HasFitWidth s.kind) sites
