-- What the structs of the reader stand for.
use Rattle.std.specs.Prelude.{ℕ, ◌≡◌, List, ◌∷◌, map, Bool, Option, Result, Ok, Err}
use Rattle.rr_syntax.specs.declared.token.Token.{Token}
use Rattle.rr_syntax.specs.Tree.{Range, Identifier, PortDeclaration}
use Rattle.rr_syntax.specs.View.{plain_range, plain_header, plain_port}
use Rattle.rr_parse_expr.specs.declared.expression.ParseFault.{ParseFault}
use Rattle.rr_grammar.specs.Formats.{Format, Finds}
use Rattle.rr_grammar.specs.Parts.{separated, firsts, seconds}
use Rattle.rr_parse_expr.specs.declared.lists.Piece.{Piece}
use Rattle.rr_parse.specs.declared.lists.Separated.{Separated}
use Rattle.rr_parse.specs.declared.declarations.Type as typing
use Rattle.rr_parse.specs.declared.declarations.ParameterType.{ParameterType}
use Rattle.rr_parse.specs.declared.modules.PortList.{PortList}
use Rattle.rr_parse.specs.Answer.{Misses}
use denote.Ref.{Bor}

abbrev pub plain_list_by : {A B : Type 0} → (A → B) → Bor (List A) → List B
plain_list_by f xs = map f xs.now

abbrev pub plain_type : typing.Type → Bool × Option Range
plain_type t = (t.signed, plain_range t.range)

abbrev pub plain_kind : ParameterType → Bool × (Bool × Option Range)
plain_kind k = (k.integer, plain_type k.typed)

abbrev pub plain_port_list : PortList → Option (List Identifier) × List PortDeclaration
plain_port_list p = (plain_header p.header, map plain_port p.groups.now)

-- one part or more with separators between, as two lists
pub record FindsSeparated {A B : Type 0} (F : Format B) (plain : A → B) (tokens : List Token) (from : ℕ) (r : Piece (Separated A)) : Type 0 where
  pub parts : B × List (Bool × B)
  pub finds : Finds (separated F) tokens from parts r.next
  pub list_is : parts.0 ∷ seconds parts.1 ≡ map plain r.value.list.now
  pub commas_are : firsts parts.1 ≡ r.value.commas.now

abbrev pub AnswersParts : {A B : Type 0} → Format B → (A → B) → List Token → ℕ → Result (Piece (Separated A)) ParseFault → Type 0
AnswersParts F plain tokens from (Ok r) = FindsSeparated F plain tokens from r
AnswersParts F plain tokens from (Err e) = Misses (separated F) tokens from e
