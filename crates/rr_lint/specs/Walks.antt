-- The changes of assignments, and of the parts of items, by the numbers of their tokens.
use Rattle.std.specs.Prelude.{ℕ, Bool, true, false, nat_eq, List, [], ◌∷◌, if◌then◌else◌}
use Rattle.std.specs.List.{list_any}
use Rattle.rr_syntax.specs.Words.{Marked, mark_equals, mark_less_or_equal}
use Rattle.rr_syntax.specs.Tree.{ModuleDeclaration}
use Rattle.rr_syntax.specs.Items.{spell_module}
use Rattle.rr_lex.specs.Patch.{new_mark}
use Rattle.rr_respell.specs.Pieces.{Piece, Kept, Replaced, kept}
use Rattle.rr_lint_laws.specs.Mended.{Marks}
use Rattle.rr_lint_print.specs.Pieces.{module_pieces}

-- the mark of an assignment, by `=` where `now`
abbrev pub mark_pieces : Bool → List Piece
mark_pieces true = Kept (Marked mark_equals) ∷ []
mark_pieces false = Replaced (Marked mark_less_or_equal) (new_mark mark_equals) ∷ []

-- a module, which is mended where its number is among some
abbrev pub numbered_pieces : List ℕ → Marks → ℕ → ModuleDeclaration → List Piece
numbered_pieces numbers marks k m = if list_any (nat_eq k) numbers then module_pieces marks m else kept (spell_module m)
