-- What stands at the front of words: a mark (IEEE 1364-2005 sections 3.2 and 5.1), a reserved word (annex B) or a name (section 3.7).
use Rattle.std.specs.Prelude.{ℕ, ◌≡◌, ◌<◌, List, [], ◌∷◌, length, drop, Option, Some, None}
use Rattle.rr_syntax.specs.declared.token.Token.{Token}
use Rattle.rr_syntax.specs.declared.token.Mark.{Mark}
use Rattle.rr_syntax.specs.declared.token.Keyword.{Keyword}
use Rattle.rr_syntax.specs.declared.tree.Named.{Named as NamedToken}
use Rattle.rr_syntax.specs.Words.{Word, Named, System, Digits, Reserved, Marked, words}

abbrev pub as_mark : Word → Option Mark
as_mark (Marked m) = Some (record { 0 = m })
as_mark (Named s) = None
as_mark (System s) = None
as_mark (Digits n) = None
as_mark (Reserved k) = None

-- the mark at the front, if one stands there
unfoldable pub front_mark : List Word → Option Mark
front_mark [] = None
front_mark (w ∷ ws) = as_mark w

abbrev pub as_keyword : Word → Option Keyword
as_keyword (Reserved k) = Some (record { 0 = k })
as_keyword (Named s) = None
as_keyword (System s) = None
as_keyword (Digits n) = None
as_keyword (Marked m) = None

-- the reserved word at the front, if one stands there
unfoldable pub front_keyword : List Word → Option Keyword
front_keyword [] = None
front_keyword (w ∷ ws) = as_keyword w

abbrev pub as_name : Word → Option (List ℕ)
as_name (Named s) = Some s
as_name (System s) = None
as_name (Digits n) = None
as_name (Reserved k) = None
as_name (Marked m) = None

-- the text of the name at the front, if one stands there
unfoldable pub front_name : List Word → Option (List ℕ)
front_name [] = None
front_name (w ∷ ws) = as_name w

-- the name that stands at the token `at`, with that number; or none stands there
abbrev pub IsNameAt : List Token → ℕ → Option NamedToken → Type 0
IsNameAt tokens at None = front_name (drop at (words tokens)) ≡ None
IsNameAt tokens at (Some n) = (n.token ≡ at) × (front_name (drop at (words tokens)) ≡ Some n.name.now) × (at < length tokens)
