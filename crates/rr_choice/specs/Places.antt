-- What a site is and where it stands, and the first of a list that passes a test.
use Rattle.std.specs.Prelude.{ℕ, ◌==◌, Bool, true, false, ◌&&◌, if◌then◌else◌, List, [], ◌∷◌, Option, Some, None}
use Rattle.rr_choice.specs.declared.pick.Pick.{Pick}
use Rattle.rr_choice.specs.Sites as sites
use Rattle.rr_choice.specs.Sites.{SiteKind, Site}

-- a literal at a token
abbrev pub is_literal : SiteKind → Bool
is_literal (sites.Literal width signed) = true
is_literal (sites.Guard owner extent names) = false
is_literal (sites.Overwrite owner target width now names) = false

abbrev pub is_literal_at : ℕ → Site → Bool
is_literal_at token s = is_literal s.kind && (s.token == token)

-- a condition of n tokens from a token on
abbrev pub is_guard : ℕ → SiteKind → Bool
is_guard n (sites.Literal width signed) = false
is_guard n (sites.Guard owner extent names) = extent == n
is_guard n (sites.Overwrite owner target width now names) = false

abbrev pub is_guard_at : ℕ → ℕ → Site → Bool
is_guard_at token n s = is_guard n s.kind && (s.token == token)

-- a variable that a statement with its first token there assigns
abbrev pub is_overwrite : SiteKind → Bool
is_overwrite (sites.Literal width signed) = false
is_overwrite (sites.Guard owner extent names) = false
is_overwrite (sites.Overwrite owner target width now names) = true

abbrev pub is_overwrite_at : ℕ → Site → Bool
is_overwrite_at token s = is_overwrite s.kind && (s.token == token)

-- the first site that passes a test, with its pick; none where the picks end before it
unfoldable pub find_pick : (Site → Bool) → List Site → List Pick → Option (Site × Pick)
find_pick test [] ps = None
find_pick test (s ∷ ss) [] = None
find_pick test (s ∷ ss) (p ∷ ps) = if test s then Some (s, p) else find_pick test ss ps
