-- The words that the profile of Verilog has no rule for.
use Rattle.std.specs.Prelude.{ℕ, ◌<◌, List, [], ◌∷◌, codes, length, drop, Bool, false, not, ◌==◌, ◌&&◌, ◌||◌, IsTrue}
use Rattle.std.specs.List.{list_any}
use Rattle.std.specs.Str.{bytes_eq}
use Rattle.rr_syntax.specs.declared.token.Token.{Token}
use Rattle.rr_syntax.specs.Words.{Word, Named, System, Digits, Reserved, Marked, words, mark_hash, mark_open_parenthesis, keyword_always, keyword_assign, keyword_begin, keyword_case, keyword_casex, keyword_casez, keyword_default, keyword_else, keyword_end, keyword_endcase, keyword_endmodule, keyword_for, keyword_if, keyword_initial, keyword_input, keyword_integer, keyword_localparam, keyword_module, keyword_negedge, keyword_or, keyword_output, keyword_parameter, keyword_posedge, keyword_reg, keyword_signed, keyword_wire}

-- the reserved words in the rules of the grammar (IEEE 1364-2005 annex A)
abbrev pub used : List ℕ
used =
    keyword_always ∷ keyword_assign ∷ keyword_begin ∷ keyword_case ∷ keyword_casex ∷ keyword_casez ∷ keyword_default ∷ keyword_else ∷
    keyword_end ∷ keyword_endcase ∷ keyword_endmodule ∷ keyword_for ∷ keyword_if ∷ keyword_initial ∷ keyword_input ∷ keyword_integer ∷ keyword_localparam ∷
    keyword_module ∷ keyword_negedge ∷ keyword_or ∷ keyword_output ∷ keyword_parameter ∷ keyword_posedge ∷ keyword_reg ∷ keyword_signed ∷ keyword_wire ∷ []

unfoldable pub is_used : ℕ → Bool
is_used k = list_any (λ (u : ℕ). u == k) used

-- `$signed` or `$unsigned` (section 5.5)
unfoldable pub is_cast : List ℕ → Bool
is_cast s = bytes_eq s (codes "signed") || bytes_eq s (codes "unsigned")

abbrev pub is_bracket : Word → Bool
is_bracket (Named s) = false
is_bracket (System s) = false
is_bracket (Digits n) = false
is_bracket (Reserved k) = false
is_bracket (Marked m) = m == mark_open_parenthesis

-- an opening bracket stands at the front
unfoldable pub opens : List Word → Bool
opens [] = false
opens (w ∷ ws) = is_bracket w

-- a word has no rule, where these words stand behind it; a `#` stands only before brackets (section 12.2)
abbrev pub has_no_rule : Word → List Word → Bool
has_no_rule (Named s) ws = false
has_no_rule (System s) ws = not (is_cast s)
has_no_rule (Digits n) ws = false
has_no_rule (Reserved k) ws = not (is_used k)
has_no_rule (Marked m) ws = (m == mark_hash) && not (opens ws)

-- the word at the front has none
unfoldable pub is_outside : List Word → Bool
is_outside [] = false
is_outside (w ∷ ws) = has_no_rule w ws

abbrev pub IsOutside : List Token → ℕ → Type 0
IsOutside tokens at = IsTrue (is_outside (drop at (words tokens)))

abbrev pub NoneOutside : List Token → Type 0
NoneOutside tokens = (at : ℕ) → IsOutside tokens at → ⊥

-- the token `at` is the first whose word has no rule
pub record IsFirstOutside (tokens : List Token) (at : ℕ) : Type 0 where
  pub within : at < length tokens
  pub outside : IsOutside tokens at
  pub first : (i : ℕ) → i < at → IsOutside tokens i → ⊥
