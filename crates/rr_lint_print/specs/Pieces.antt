-- The pieces in which a source with mended combinational blocks is printed: its tokens in their order, `=` in the place of each `<=`
-- that assigns there, and new tokens round a body that clears variables first.
use Rattle.std.specs.Prelude.{ℕ, ◌+◌, true, false, nat_eq, List, [], ◌∷◌, ◌++◌, if◌then◌else◌}
use Rattle.std.specs.List.{list_any}
use Rattle.rr_syntax.specs.Words.{Named, Reserved, Marked, keyword_always, keyword_begin, keyword_else, keyword_end, keyword_endcase, keyword_endmodule, keyword_for, keyword_if, keyword_module, mark_open_parenthesis, mark_close_parenthesis, mark_at, mark_semicolon, mark_equals, mark_less_or_equal}
use Rattle.rr_syntax.specs.Tree.{Statement, Statements, Arm, Arms, Null, Block, If, IfElse, Case, Assign, For, Done, Then, CaseItem, NoArms, MoreArms, EventControl, Star, Edges, Levels, ModuleItem, Ports, Nets, Variables, Integers, Parameters, Assigns, Always, Initial, Instances, ModuleDeclaration, SourceText}
use Rattle.rr_syntax.specs.Expressions.{spell}
use Rattle.rr_syntax.specs.Statements.{spell_label, spell_labels, spell_loop, spell_statement}
use Rattle.rr_syntax.specs.Items.{spell_events, spell_item, spell_module, spell_parameters, spell_ports}
use Rattle.rr_lex.specs.Patch.{New, Edit, new_decimal, new_keyword, new_mark, new_name, patched}
use Rattle.rr_lex.specs.Tokens.{Lexeme}
use Rattle.rr_respell.specs.Pieces.{Piece, Replaced, edits, kept, puts}
use Rattle.rr_respell.specs.Printing.{all_pieces}
use Rattle.rr_lint_laws.specs.Mended.{Marks, cleared_by}

-- a statement in which each `<=` that assigns becomes `=`; a loop's head stays
unfoldable mutual
  pub immediate_pieces : Statement → List Piece
  immediate_pieces Null = kept (spell_statement Null)
  immediate_pieces (Block label ss) = kept (Reserved keyword_begin ∷ spell_label label) ++ (all_immediate_pieces ss ++ kept (Reserved keyword_end ∷ []))
  immediate_pieces (If c t) =
      kept (Reserved keyword_if ∷ (Marked mark_open_parenthesis ∷ (spell c ++ (Marked mark_close_parenthesis ∷ [])))) ++ immediate_pieces t
  immediate_pieces (IfElse c t u) =
      kept (Reserved keyword_if ∷ (Marked mark_open_parenthesis ∷ (spell c ++ (Marked mark_close_parenthesis ∷ [])))) ++
      (immediate_pieces t ++ (kept (Reserved keyword_else ∷ []) ++ immediate_pieces u))
  immediate_pieces (Case kind on arms) =
      kept (Reserved kind ∷ (Marked mark_open_parenthesis ∷ (spell on ++ (Marked mark_close_parenthesis ∷ [])))) ++
      (arms_immediate_pieces arms ++ kept (Reserved keyword_endcase ∷ []))
  immediate_pieces (Assign t true e) = kept (spell_statement (Assign t true e))
  immediate_pieces (Assign t false e) =
      kept (spell t) ++ (Replaced (Marked mark_less_or_equal) (new_mark mark_equals) ∷ kept (spell e ++ (Marked mark_semicolon ∷ [])))
  immediate_pieces (For h t) = kept (Reserved keyword_for ∷ spell_loop h) ++ immediate_pieces t

  pub all_immediate_pieces : Statements → List Piece
  all_immediate_pieces Done = []
  all_immediate_pieces (Then t ts) = immediate_pieces t ++ all_immediate_pieces ts

  pub arm_immediate_pieces : Arm → List Piece
  arm_immediate_pieces (CaseItem labels colon t) = kept (spell_labels labels colon) ++ immediate_pieces t

  pub arms_immediate_pieces : Arms → List Piece
  arms_immediate_pieces NoArms = []
  arms_immediate_pieces (MoreArms a rest) = arm_immediate_pieces a ++ arms_immediate_pieces rest

-- `v = 0;` for each name
unfoldable pub cleared_news : List (List ℕ) → List New
cleared_news [] = []
cleared_news (name ∷ names) = new_name name ∷ (new_mark mark_equals ∷ (new_decimal (48 ∷ []) ∷ (new_mark mark_semicolon ∷ cleared_news names)))

-- the pieces of a body between `begin v = 0; ..` and `end`, where there are names
abbrev pub defaulted_pieces : List (List ℕ) → List Piece → List Piece
defaulted_pieces [] body = body
defaulted_pieces (name ∷ names) body = puts (new_keyword keyword_begin ∷ cleared_news (name ∷ names)) ++ (body ++ puts (new_keyword keyword_end ∷ []))

abbrev pub mended_pieces : Marks → ℕ → Statement → List Piece
mended_pieces marks token body = defaulted_pieces (cleared_by marks token body) (immediate_pieces body)

-- the body of an `always`, which is mended where it waits for no edge
abbrev pub body_pieces : Marks → EventControl → Statement → ℕ → List Piece
body_pieces marks (Star brackets) body token = mended_pieces marks token body
body_pieces marks (Edges list commas) body token = kept (spell_statement body)
body_pieces marks (Levels list commas) body token = mended_pieces marks token body

unfoldable pub item_pieces : Marks → ModuleItem → List Piece
item_pieces marks (Ports p) = kept (spell_item (Ports p))
item_pieces marks (Nets signed range list) = kept (spell_item (Nets signed range list))
item_pieces marks (Variables signed range list) = kept (spell_item (Variables signed range list))
item_pieces marks (Integers list) = kept (spell_item (Integers list))
item_pieces marks (Parameters p) = kept (spell_item (Parameters p))
item_pieces marks (Assigns pairs) = kept (spell_item (Assigns pairs))
item_pieces marks (Always events body token) = kept (Reserved keyword_always ∷ (Marked mark_at ∷ spell_events events)) ++ body_pieces marks events body token
item_pieces marks (Initial body token) = kept (spell_item (Initial body token))
item_pieces marks (Instances m token overrides list) = kept (spell_item (Instances m token overrides list))

unfoldable pub module_pieces : Marks → ModuleDeclaration → List Piece
module_pieces marks m =
    kept (Reserved keyword_module ∷ (Named m.text ∷ (spell_parameters m.params ++ (spell_ports m.header m.groups ++ (Marked mark_semicolon ∷ []))))) ++
    (all_pieces (item_pieces marks) m.items ++ kept (Reserved keyword_endmodule ∷ []))

-- of the modules with these numbers, where the first has number k
unfoldable pub modules_pieces : List ℕ → Marks → ℕ → List ModuleDeclaration → List Piece
modules_pieces numbers marks k [] = []
modules_pieces numbers marks k (m ∷ ms) =
    (if list_any (nat_eq k) numbers then module_pieces marks m else kept (spell_module m)) ++ modules_pieces numbers marks (k + 1) ms

unfoldable pub source_pieces : List ℕ → Marks → SourceText → List Piece
source_pieces numbers marks s = modules_pieces numbers marks 0 s.modules

-- what is done at each token
abbrev pub lint_edits : List ℕ → Marks → SourceText → List Edit
lint_edits numbers marks s = edits (source_pieces numbers marks s)

-- the bytes of the mended source, from those of the source and its tokens
abbrev pub linted : List ℕ → List Lexeme → List ℕ → Marks → SourceText → List ℕ
linted bytes tokens numbers marks s = patched 0 bytes tokens (lint_edits numbers marks s)
