-- Which sites of an expanded text can be changed in the file: those whose changes, each alone, lift.
use Rattle.std.specs.Prelude.{ℕ, ◌+◌, ◌-◌, ◌==◌, ◌&&◌, ◌≡◌, nat_lt, Bool, List, [], ◌∷◌, length, get_or, filter, Option, Some, None, if◌then◌else◌}
use Rattle.std.specs.List.{flat_map}
use Rattle.rr_syntax.specs.Items.{spell_events}
use Rattle.rr_syntax.specs.Statements.{spell_statement}
use Rattle.rr_syntax.specs.Tree.{ModuleItem, Ports, Nets, Variables, Integers, Parameters, Assigns, Always, Initial, Instances, SourceText}
use Rattle.rr_syntax.specs.Words.{Marked}
use Rattle.rr_directive.specs.declared.origin.Origin.{Origin}
use Rattle.rr_lex.specs.Tokens.{Lexeme}
use Rattle.rr_choice.specs.Sites as sites
use Rattle.rr_choice.specs.Sites.{SiteKind, Site}
use Rattle.rr_edit.specs.Lifted.{lifts}

abbrev pub token_at : List Lexeme → ℕ → Lexeme
token_at ts k = get_or ts k (record { word = Marked 0; start = 0; end = 0 })

-- the token with that number can be replaced in the file
abbrev pub token_lifts : List Origin → List Lexeme → ℕ → Bool
token_lifts origins ts k = lifts origins (record { from = (token_at ts k).start; to = (token_at ts k).end; text = [] })

-- there is a token before the one with that number, and a text can be put behind it
abbrev pub place_lifts : List Origin → List Lexeme → ℕ → Bool
place_lifts origins ts k = nat_lt 0 k && lifts origins (record { from = (token_at ts (k - 1)).end; to = (token_at ts (k - 1)).end; text = [] })

-- so it is before this token, and behind the last of so many from it on
abbrev pub round_lifts : List Origin → List Lexeme → ℕ → ℕ → Bool
round_lifts origins ts k count = place_lifts origins ts k && place_lifts origins ts (k + count)

-- the number of tokens of the body of an `always` that begins at a token, which stands behind `always`, `@` and the events
unfoldable pub body_at : ℕ → ModuleItem → Option ℕ
body_at k (Ports p) = None
body_at k (Nets signed range names) = None
body_at k (Variables signed range names) = None
body_at k (Integers names) = None
body_at k (Parameters p) = None
body_at k (Assigns pairs) = None
body_at k (Always events body token) = if token + 2 + length (spell_events events) == k then Some (length (spell_statement body)) else None
body_at k (Initial s token) = None
body_at k (Instances m token overrides list) = None

abbrev pub or_next : Option ℕ → ℕ → ℕ
or_next None later = later
or_next (Some n) later = n

-- .. of the first such body among items, and 0 where there is none
unfoldable pub body_length : ℕ → List ModuleItem → ℕ
body_length k [] = 0
body_length k (x ∷ xs) = or_next (body_at k x) (body_length k xs)

abbrev pub body_length_in : SourceText → ℕ → ℕ
body_length_in source k = body_length k (flat_map (λ m. m.items) source.modules)

-- A literal is kept where its token can be replaced; a condition and the body that an overwrite follows, where texts can be put
-- before them and behind them.
abbrev pub kind_lifts : List Origin → List Lexeme → SourceText → ℕ → SiteKind → Bool
kind_lifts origins ts source token (sites.Literal width signed) = token_lifts origins ts token
kind_lifts origins ts source token (sites.Guard owner extent names) = round_lifts origins ts token extent
kind_lifts origins ts source token (sites.Overwrite owner target width now names) = round_lifts origins ts token (body_length_in source token)

abbrev pub is_kept : List Origin → List Lexeme → SourceText → Site → Bool
is_kept origins ts source s = kind_lifts origins ts source s.token s.kind

-- the sites of a list that are kept, in their order
abbrev pub AreKept : List Origin → List Lexeme → SourceText → List Site → List Site → Type 0
AreKept origins ts source listed ss = ss ≡ filter (is_kept origins ts source) listed
