-- The list of sites that a text has, place by place.
use Rattle.std.specs.Prelude.{◌≡◌, ◌↔◌, ℕ, ◌<◌, List, length, get_or, Option, Contains}
use Rattle.rr_syntax.specs.Tree.{SourceText}
use Rattle.rr_lex.specs.Tokens.{Lexeme, words_of}
use Rattle.rr_flat.specs.Plain.{Flat}
use Rattle.rr_choice.specs.Sites.{Site}
use Rattle.rr_clock.specs.Places.{Place, ArePlaces}
use Rattle.rr_sites_complete.specs.Kinds.{IsSite}
use Rattle.rr_sites_complete.specs.Order.{ComesBefore, Ordered}
use Rattle.rr_sites_complete.specs.Spelled.{IsSpelled}
use Rattle.rr_kept.specs.Read.{SourceFile}
use Rattle.rr_sites_command.specs.Lists.{HasFileSites, HasSites}

-- with the names that lead to the clock in an instance, it has exactly the sites of the modules that have instances, in their
-- order, each once; and the tokens from that of a site on are the literal, the condition or the body
pub record AreExactly (source : SourceText) (flat : Flat) (clock : Option ℕ) (tokens : List Lexeme) (ss : List Site) : Type 0 where
  pub places : List Place
  pub are_places : ArePlaces flat clock places
  pub each : (s : Site) → Contains ss s ↔ IsSite source flat.scopes flat.owners places s
  pub order : Ordered (ComesBefore source) ss
  pub once : (j k : ℕ) (d : Site) → j < k → k < length ss → get_or ss j d ≡ get_or ss k d → ⊥
  pub spelled : (s : Site) → (h : IsSite source flat.scopes flat.owners places s) → IsSpelled (words_of tokens) h.is

-- so it is of each list that is told of a text
abbrev pub ListsAreExact : Type 0
ListsAreExact =
    (bytes : List ℕ) (top word : Option (List ℕ)) (tokens : List Lexeme) (ss : List Site) → (h : HasSites bytes top word tokens ss) → AreExactly h.source h.flat h.clock tokens ss

-- and of the list of which those are told that can be changed in a file
abbrev pub FileListsAreExact : Type 0
FileListsAreExact =
    (file : List ℕ) (top word : Option (List ℕ)) (read : SourceFile) (ss : List Site) → (h : HasFileSites file top word read ss) → AreExactly read.source h.flat h.clock read.tokens h.listed
