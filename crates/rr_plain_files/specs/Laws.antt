-- Files without macros, and that their tokens can be changed; so all their sites can, as in a text.
use Rattle.std.specs.Prelude.{ℕ, ◌+◌, ◌<◌, ◌≤◌, ◌≡◌, ◌≢◌, ◌==◌, ◌&&◌, not, Bool, true, false, List, [], ◌∷◌, ◌++◌, length, Option}
use Rattle.std.specs.List.{All}
use Rattle.rr_syntax.specs.declared.token.Number.{Number}
use Rattle.rr_syntax.specs.Words.{Digits}
use Rattle.rr_directive.specs.declared.origin.Origin.{Origin}
use Rattle.rr_directive.specs.Expand.{IsExpansion}
use Rattle.rr_directive.specs.Laws.{is_kept}
use Rattle.rr_directive.specs.Pieces.{begins_with, units_of}
use Rattle.rr_lex.specs.Tokens.{AreTokens, IsClosedBy, Lexeme, Read, attribute_begins, is_closed_next}
use Rattle.rr_choice.specs.declared.pick.Pick.{Pick}
use Rattle.rr_choice.specs.Sites.{Site, IsSiteList}
use Rattle.rr_respell.specs.Printing.{printed}
use Rattle.rr_kept.specs.Kept.{place_lifts, token_at, token_lifts}
use Rattle.rr_kept.specs.Read.{IsRead, SourceFile}
use Rattle.rr_map.specs.Printed.{printed_file}
use Rattle.rr_sites_command.specs.Lists.{HasFileSites}

-- neither // nor /* stands in these bytes, and no \ and no backtick
unfoldable pub is_calm : List ℕ → Bool
is_calm [] = true
is_calm (b ∷ bs) = not (begins_with 47 47 (b ∷ bs)) && (not (begins_with 47 42 (b ∷ bs)) && (not (b == 92) && (not (b == 96) && is_calm bs)))

-- so it is with the body of each attribute, which stands behind tokens and white space of the file (IEEE 1364-2005 section 3.8)
abbrev pub AreCalm : List ℕ → Type 0
AreCalm file = (at : ℕ) (ts : List Lexeme) (body after : List ℕ) →
    Read at (40 ∷ (42 ∷ (body ++ after))) 0 file ts → IsClosedBy 42 41 body → is_closed_next body ≡ false → is_calm body ≡ true

-- a file without uses and without directives but those that stay, the attributes of which are calm
pub record IsPlainFile (file : List ℕ) : Type 0 where
  pub units : All (λ u. is_kept u.piece.kind ≡ true) (units_of file)
  pub attributes : AreCalm file

-- a file without a backtick in which no attribute begins is such
abbrev pub PlainWithout : Type 0
PlainWithout = (file : List ℕ) → All (λ b. b ≢ 96) file → ((front rest : List ℕ) → file ≡ front ++ rest → attribute_begins rest ≡ false) → IsPlainFile file

-- in such a file a text can be put behind each token, and each number can be replaced
abbrev pub PlainTokensLift : Type 0
PlainTokensLift = (file : List ℕ) (ts : List Lexeme) (origins : List Origin) → IsPlainFile file → AreTokens file ts → IsExpansion file file origins →
    (k : ℕ) → k < length ts → (place_lifts origins ts (k + 1) ≡ true) × ((n : Number) → (token_at ts k).word ≡ Digits n → token_lifts origins ts k ≡ true)

-- such a file is its own expansion, and in the list of its sites that can be changed none of its sites is left out
abbrev pub PlainKeepsAll : Type 0
PlainKeepsAll = (file : List ℕ) (top word : Option (List ℕ)) (read : SourceFile) (ss : List Site) → IsPlainFile file → (h : HasFileSites file top word read ss) →
    (read.text ≡ file) × (ss ≡ h.listed)

-- a choice is printed into such a file as into a text, byte for byte
abbrev pub PlainPrints : Type 0
PlainPrints = (bytes : List ℕ) (file : SourceFile) (ss : List Site) (ps : List Pick) → IsPlainFile bytes → length bytes ≤ 1048576 → IsRead bytes file ss → IsSiteList ss →
    printed_file bytes file ss ps ≡ printed bytes file.tokens ss ps file.source
