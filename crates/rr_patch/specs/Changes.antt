-- The changes of pieces, each with the number of its token: a new token in the place of the token with that number, or
-- before it.
use Rattle.std.specs.Prelude.{ℕ, ◌+◌, ◌==◌, ◌<◌, ◌≤◌, ◌^◌, ◌&&◌, not, Bool, true, false, if◌then◌else◌, List, [], ◌∷◌, ◌++◌, map, Option, None, Some}
use Rattle.std.specs.List.{All}
use Rattle.rr_syntax.specs.Words.{keyword_begin, keyword_end, keyword_if, mark_open_parenthesis, mark_close_parenthesis, mark_semicolon, mark_equals, mark_less_or_equal, mark_not, mark_logical_and, mark_logical_or}
use Rattle.rr_edit.specs.Edits.{Edit}
use Rattle.rr_lex.specs.Patch.{New, new_decimal, new_keyword, new_mark, new_name, new_literal}
use Rattle.rr_lex.specs.Tokens.{Lexeme}
use Rattle.rr_patch.specs.declared.change.Change.{Change as Made}
use Rattle.rr_patch.specs.declared.change.Added.{Added}
use Rattle.rr_patch.specs.declared.change.Added.TheVariants as added
use Rattle.rr_patch.specs.declared.change.Fixed.{Fixed}
use Rattle.rr_patch.specs.declared.change.Fixed.TheVariants as fixed
use Rattle.rr_patch.specs.Edits.{replaced_edit, run_edit}
use Rattle.rr_respell.specs.Pieces.{Piece, Kept, Replaced, Put}

-- a new token at a token of the source; in its place where `over`, else before it
pub record Change : Type 0 where
  pub place : ℕ
  pub over : Bool
  pub new : New

-- the changes of pieces of which the first token of the source has that number
unfoldable pub changes : ℕ → List Piece → List Change
changes k [] = []
changes k (Kept w ∷ xs) = changes (k + 1) xs
changes k (Replaced w n ∷ xs) = record { place = k; over = true; new = n } ∷ changes (k + 1) xs
changes k (Put n ∷ xs) = record { place = k; over = false; new = n } ∷ changes k xs

-- what the code's values stand for
abbrev pub plain_fixed : Fixed → New
plain_fixed fixed.Begin = new_keyword keyword_begin
plain_fixed fixed.If = new_keyword keyword_if
plain_fixed fixed.End = new_keyword keyword_end
plain_fixed fixed.Open = new_mark mark_open_parenthesis
plain_fixed fixed.Close = new_mark mark_close_parenthesis
plain_fixed fixed.Semicolon = new_mark mark_semicolon
plain_fixed fixed.Equals = new_mark mark_equals
plain_fixed fixed.LessOrEqual = new_mark mark_less_or_equal
plain_fixed fixed.Not = new_mark mark_not
plain_fixed fixed.Both = new_mark mark_logical_and
plain_fixed fixed.Either = new_mark mark_logical_or
plain_fixed fixed.Zero = new_decimal (48 ∷ [])

abbrev pub plain_added : Added → New
plain_added (added.Fixed f) = plain_fixed f
plain_added (added.Name name) = new_name name.now
plain_added (added.Literal width signed value) = new_literal width signed value

abbrev pub plain_change : Made → Change
plain_change c = record { place = c.place; over = c.over; new = plain_added c.new }

abbrev pub plain_changes : List Made → List Change
plain_changes cs = map plain_change cs

-- a literal of 1 to 128 bits whose value has no more
abbrev pub IsFitAdded : Added → Type 0
IsFitAdded (added.Fixed f) = Unit {0}
IsFitAdded (added.Name name) = Unit {0}
IsFitAdded (added.Literal width signed value) = (1 ≤ width) × (width ≤ 128) × (value < 2 ^ width)

abbrev pub AreFit : List Made → Type 0
AreFit cs = All (λ c. IsFitAdded c.new) cs

-- it replaces the token with that number, or stands before it
abbrev pub is_over_at : ℕ → Change → Bool
is_over_at k c = c.over && (c.place == k)

abbrev pub is_before_at : ℕ → Change → Bool
is_before_at k c = not c.over && (c.place == k)

-- what the first of some changes puts in the place of that token, and the changes after it
unfoldable pub over_at : ℕ → List Change → Option New
over_at k [] = None
over_at k (c ∷ cs) = if is_over_at k c then Some c.new else None

unfoldable pub after_over : ℕ → List Change → List Change
after_over k [] = []
after_over k (c ∷ cs) = if is_over_at k c then cs else c ∷ cs

-- the new tokens that the first of some changes put before that token, and the changes after them
unfoldable pub run_at : ℕ → List Change → List New
run_at k [] = []
run_at k (c ∷ cs) = if is_before_at k c then c.new ∷ run_at k cs else []

unfoldable pub after_run : ℕ → List Change → List Change
after_run k [] = []
after_run k (c ∷ cs) = if is_before_at k c then after_run k cs else c ∷ cs

-- the edit that replaces a token with that number, and the one of the run of new tokens behind it
abbrev pub token_edits : Lexeme → ℕ → List Change → List Edit
token_edits t k cs = replaced_edit (over_at k cs) t ++ run_edit (run_at (k + 1) (after_over k cs)) t

-- the edits that changes make at tokens of which the first has that number
unfoldable pub made_edits : ℕ → List Lexeme → List Change → List Edit
made_edits k [] cs = []
made_edits k (t ∷ ts) cs = token_edits t k cs ++ made_edits (k + 1) ts (after_run (k + 1) (after_over k cs))
