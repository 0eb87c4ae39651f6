-- The pieces in which a choice prints a source: the source's tokens in their order, a new literal in the place of a
-- literal that is switched on, and new tokens round each condition and each body of an `always` that is.
use Rattle.std.specs.Prelude.{ℕ, ◌%◌, ◌^◌, ◌==◌, ◌&&◌, Bool, false, cond, if◌then◌else◌, List, [], ◌∷◌, ◌++◌, get_or, codes, Option, Some, None}
use Rattle.rr_syntax.specs.declared.token.Number.{Number}
use Rattle.rr_syntax.specs.Words.{Named, System, Digits, Reserved, Marked, keyword_always, keyword_assign, keyword_begin, keyword_else, keyword_end, keyword_endcase, keyword_endmodule, keyword_for, keyword_if, keyword_module, keyword_wire, mark_open_parenthesis, mark_close_parenthesis, mark_open_brace, mark_close_brace, mark_comma, mark_semicolon, mark_colon, mark_dot, mark_at, mark_question, mark_equals, mark_not, mark_less_or_equal, mark_logical_and, mark_logical_or}
use Rattle.rr_syntax.specs.Tree.{Tree, Trees, Name, Literal, Bit, Part, Indexed, Unary, Binary, Cond, Concat, Repeat, Cast, Paren, End, More, Statement, Statements, Arm, Arms, Null, Block, If, IfElse, Case, Assign, For, Done, Then, CaseItem, NoArms, MoreArms, DeclaredName, NetAssignment, NamedConnection, Connections, Positions, Names, ModuleInstance, ModuleItem, Ports, Nets, Variables, Integers, Parameters, Assigns, Always, Initial, Instances, ModuleDeclaration, SourceText}
use Rattle.rr_syntax.specs.Expressions.{spell}
use Rattle.rr_syntax.specs.Statements.{spell_label, spell_labels, spell_loop}
use Rattle.rr_syntax.specs.Items.{spell_range, spell_type, spell_events, spell_overrides, spell_item, spell_parameters, spell_ports}
use Rattle.rr_expr.specs.declared.operators.Infix.TheVariants.{Either}
use Rattle.rr_expr.specs.Faults.{takes_constants}
use Rattle.rr_expr.specs.Operators.{infixes}
use Rattle.rr_lex.specs.Tokens.{Lexeme}
use Rattle.rr_lex.specs.Patch.{New, Edit, new_literal, new_keyword, new_mark, new_name, patched}
use Rattle.rr_choice.specs.declared.pick.Pick.{Pick}
use Rattle.rr_choice.specs.Sites as sites
use Rattle.rr_choice.specs.Sites.{SiteKind, Site, guard_names}
use Rattle.rr_instance.specs.Firsts.{first_token}
use Rattle.rr_choice.specs.Choices.{picked_form, picked_name}
use Rattle.rr_choice.specs.Places.{find_pick, is_literal_at, is_overwrite_at}
use Rattle.rr_instance.specs.Instances.{is_guard_of}
use Rattle.rr_respell.specs.Pieces.{Piece, Kept, Replaced, Put, kept, puts, edits}

-- a literal, with the value of a pick cut to its width
abbrev pub literal_pieces : Option (Site × Pick) → Number → List Piece
literal_pieces None n = Kept (Digits n) ∷ []
literal_pieces (Some (s, p)) n =
    if p.on then Replaced (Digits n) (new_literal n.width n.signed (p.value % 2 ^ n.width)) ∷ [] else Kept (Digits n) ∷ []

-- new brackets round pieces
abbrev pub bracketed : List Piece → List Piece
bracketed ps = Put (new_mark mark_open_parenthesis) ∷ (ps ++ (Put (new_mark mark_close_parenthesis) ∷ []))

-- a name, or its negation
abbrev pub negated_name : List ℕ → List New
negated_name name = new_mark mark_not ∷ (new_name name ∷ [])

-- the pieces E of a condition with a guard s: `!(E)`, `(E) && s`, `(E) && !s`, `(E) || s`, `(E) || !s`; a form past the
-- last counts as the last
abbrev pub guarded_pieces : ℕ → List ℕ → List Piece → List Piece
guarded_pieces form name ps =
    if form == 0 then Put (new_mark mark_not) ∷ bracketed ps
    else if form == 1 then bracketed ps ++ puts (new_mark mark_logical_and ∷ (new_name name ∷ []))
    else if form == 2 then bracketed ps ++ puts (new_mark mark_logical_and ∷ negated_name name)
    else if form == 3 then bracketed ps ++ puts (new_mark mark_logical_or ∷ (new_name name ∷ []))
    else bracketed ps ++ puts (new_mark mark_logical_or ∷ negated_name name)

abbrev pub test_pieces : Option (Site × Pick) → List Piece → List Piece
test_pieces None ps = ps
test_pieces (Some (s, p)) ps =
    if p.on then guarded_pieces (picked_form (guard_names s.kind) p.form) (picked_name (guard_names s.kind) p.name) ps else ps

-- an expression; what `/`, `%` and `**` take, indices, bounds and counts stay
unfoldable mutual
  pub tree_pieces : List Site → List Pick → Tree → List Piece
  tree_pieces ss ps (Name token x) = Kept (Named x) ∷ []
  tree_pieces ss ps (Literal token n) = literal_pieces (find_pick (is_literal_at token) ss ps) n
  tree_pieces ss ps (Bit token x i) = kept (spell (Bit token x i))
  tree_pieces ss ps (Part token x l r) = kept (spell (Part token x l r))
  tree_pieces ss ps (Indexed token x f n up) = kept (spell (Indexed token x f n up))
  tree_pieces ss ps (Unary op t) = Kept (Marked op) ∷ tree_pieces ss ps t
  tree_pieces ss ps (Binary op l r) =
      if takes_constants (get_or infixes op Either) then kept (spell (Binary op l r)) else tree_pieces ss ps l ++ (Kept (Marked op) ∷ tree_pieces ss ps r)
  tree_pieces ss ps (Cond a b c) =
      test_pieces (find_pick (is_guard_of a) ss ps) (tree_pieces ss ps a) ++
      (Kept (Marked mark_question) ∷ (tree_pieces ss ps b ++ (Kept (Marked mark_colon) ∷ tree_pieces ss ps c)))
  tree_pieces ss ps (Concat ts) = Kept (Marked mark_open_brace) ∷ (part_pieces ss ps ts ++ (Kept (Marked mark_close_brace) ∷ []))
  tree_pieces ss ps (Repeat n ts) =
      Kept (Marked mark_open_brace) ∷
      (kept (spell n) ++ (Kept (Marked mark_open_brace) ∷ (part_pieces ss ps ts ++ (Kept (Marked mark_close_brace) ∷ (Kept (Marked mark_close_brace) ∷ [])))))
  tree_pieces ss ps (Cast signed t) =
      Kept (System (cond signed (codes "signed") (codes "unsigned"))) ∷
      (Kept (Marked mark_open_parenthesis) ∷ (tree_pieces ss ps t ++ (Kept (Marked mark_close_parenthesis) ∷ [])))
  tree_pieces ss ps (Paren t) = Kept (Marked mark_open_parenthesis) ∷ (tree_pieces ss ps t ++ (Kept (Marked mark_close_parenthesis) ∷ []))

  -- a list, with commas between
  pub part_pieces : List Site → List Pick → Trees → List Piece
  part_pieces ss ps End = []
  part_pieces ss ps (More t ts) = tree_pieces ss ps t ++ more_pieces ss ps ts

  -- a list, with a comma before each
  pub more_pieces : List Site → List Pick → Trees → List Piece
  more_pieces ss ps End = []
  more_pieces ss ps (More t ts) = Kept (Marked mark_comma) ∷ (tree_pieces ss ps t ++ more_pieces ss ps ts)

-- a condition: the sites inside first, and the guard round it
abbrev pub condition_pieces : List Site → List Pick → Tree → List Piece
condition_pieces ss ps test = test_pieces (find_pick (is_guard_of test) ss ps) (tree_pieces ss ps test)

unfoldable pub label_pieces : List Site → List Pick → Trees → Bool → List Piece
label_pieces ss ps End colon = kept (spell_labels End colon)
label_pieces ss ps (More t ts) colon = part_pieces ss ps (More t ts) ++ (Kept (Marked mark_colon) ∷ [])

-- a statement inside an `always`; targets stay, and so does what a loop tells of its name
unfoldable mutual
  pub statement_pieces : List Site → List Pick → Statement → List Piece
  statement_pieces ss ps Null = Kept (Marked mark_semicolon) ∷ []
  statement_pieces ss ps (Block label ts) =
      Kept (Reserved keyword_begin) ∷ (kept (spell_label label) ++ (statements_pieces ss ps ts ++ (Kept (Reserved keyword_end) ∷ [])))
  statement_pieces ss ps (If c t) =
      Kept (Reserved keyword_if) ∷
      (Kept (Marked mark_open_parenthesis) ∷ (condition_pieces ss ps c ++ (Kept (Marked mark_close_parenthesis) ∷ statement_pieces ss ps t)))
  statement_pieces ss ps (IfElse c t u) =
      Kept (Reserved keyword_if) ∷
      (Kept (Marked mark_open_parenthesis) ∷
      (condition_pieces ss ps c ++
      (Kept (Marked mark_close_parenthesis) ∷ (statement_pieces ss ps t ++ (Kept (Reserved keyword_else) ∷ statement_pieces ss ps u)))))
  statement_pieces ss ps (Case kind on arms) =
      Kept (Reserved kind) ∷
      (Kept (Marked mark_open_parenthesis) ∷
      (tree_pieces ss ps on ++ (Kept (Marked mark_close_parenthesis) ∷ (arms_pieces ss ps arms ++ (Kept (Reserved keyword_endcase) ∷ [])))))
  statement_pieces ss ps (Assign t now e) =
      kept (spell t) ++ (Kept (Marked (cond now mark_equals mark_less_or_equal)) ∷ (tree_pieces ss ps e ++ (Kept (Marked mark_semicolon) ∷ [])))
  statement_pieces ss ps (For h t) = Kept (Reserved keyword_for) ∷ (kept (spell_loop h) ++ statement_pieces ss ps t)

  pub statements_pieces : List Site → List Pick → Statements → List Piece
  statements_pieces ss ps Done = []
  statements_pieces ss ps (Then t ts) = statement_pieces ss ps t ++ statements_pieces ss ps ts

  pub arm_pieces : List Site → List Pick → Arm → List Piece
  arm_pieces ss ps (CaseItem labels colon t) = label_pieces ss ps labels colon ++ statement_pieces ss ps t

  pub arms_pieces : List Site → List Pick → Arms → List Piece
  arms_pieces ss ps NoArms = []
  arms_pieces ss ps (MoreArms a rest) = arm_pieces ss ps a ++ arms_pieces ss ps rest

-- the condition g of a last assignment: `1'b1`, s or `!s`; a form past the last counts as the last
abbrev pub gate_words : ℕ → List ℕ → List New
gate_words form name =
    if form == 0 then new_literal 1 false 1 ∷ []
    else if form == 1 then new_name name ∷ []
    else negated_name name

-- `if (g) v <= C; end`, with `=` where it is assigned now
abbrev pub last_assignment : List New → List ℕ → Bool → New → List New
last_assignment gate target now value =
    new_keyword keyword_if ∷
    (new_mark mark_open_parenthesis ∷
    (gate ++
    (new_mark mark_close_parenthesis ∷
    (new_name target ∷ (new_mark (cond now mark_equals mark_less_or_equal) ∷ (value ∷ (new_mark mark_semicolon ∷ (new_keyword keyword_end ∷ []))))))))

-- the pieces S of a body with a last assignment: `begin S if (g) v <= C; end`
abbrev pub overwritten_pieces : SiteKind → Pick → List Piece → List Piece
overwritten_pieces (sites.Literal width signed) p body = body
overwritten_pieces (sites.Guard owner extent names) p body = body
overwritten_pieces (sites.Overwrite owner target width now names) p body =
    Put (new_keyword keyword_begin) ∷
    (body ++ puts (last_assignment (gate_words (picked_form names p.form) (picked_name names p.name)) target now (new_literal width false (p.value % 2 ^ width))))

abbrev pub new_body_pieces : ℕ → Site → Pick → List Piece → List Piece
new_body_pieces token s p body = if is_overwrite_at token s && p.on then overwritten_pieces s.kind p body else body

-- with those of all sites at a token, the first innermost
unfoldable pub all_overwritten_pieces : ℕ → List Site → List Pick → List Piece → List Piece
all_overwritten_pieces token [] ps body = body
all_overwritten_pieces token (s ∷ ss) [] body = body
all_overwritten_pieces token (s ∷ ss) (p ∷ ps) body =
    all_overwritten_pieces token ss ps (new_body_pieces token s p body)

-- the body of an `always`, whose first token is given
abbrev pub body_pieces : List Site → List Pick → ℕ → Statement → List Piece
body_pieces ss ps token body = all_overwritten_pieces token ss ps (statement_pieces ss ps body)

-- a list, with a comma before each, with commas between, and with nothing between
unfoldable pub each_pieces : {A : Type 0} → (A → List Piece) → List A → List Piece
each_pieces f [] = []
each_pieces f (x ∷ xs) = Kept (Marked mark_comma) ∷ (f x ++ each_pieces f xs)

unfoldable pub separated_pieces : {A : Type 0} → (A → List Piece) → List A → List Piece
separated_pieces f [] = []
separated_pieces f (x ∷ xs) = f x ++ each_pieces f xs

unfoldable pub all_pieces : {A : Type 0} → (A → List Piece) → List A → List Piece
all_pieces f [] = []
all_pieces f (x ∷ xs) = f x ++ all_pieces f xs

unfoldable pub value_pieces : List Site → List Pick → Option Tree → List Piece
value_pieces ss ps None = []
value_pieces ss ps (Some t) = Kept (Marked mark_equals) ∷ tree_pieces ss ps t

unfoldable pub net_pieces : List Site → List Pick → DeclaredName → List Piece
net_pieces ss ps n = Kept (Named n.text) ∷ (kept (spell_range n.words) ++ value_pieces ss ps n.value)

unfoldable pub pair_pieces : List Site → List Pick → NetAssignment → List Piece
pair_pieces ss ps p = kept (spell p.target) ++ (Kept (Marked mark_equals) ∷ tree_pieces ss ps p.value)

unfoldable pub optional_pieces : List Site → List Pick → Option Tree → List Piece
optional_pieces ss ps None = []
optional_pieces ss ps (Some t) = tree_pieces ss ps t

unfoldable pub connection_pieces : List Site → List Pick → NamedConnection → List Piece
connection_pieces ss ps c =
    Kept (Marked mark_dot) ∷
    (Kept (Named c.text) ∷ (Kept (Marked mark_open_parenthesis) ∷ (optional_pieces ss ps c.value ++ (Kept (Marked mark_close_parenthesis) ∷ []))))

-- with the brackets
unfoldable pub connections_pieces : List Site → List Pick → Connections → List Piece
connections_pieces ss ps (Positions ts) = Kept (Marked mark_open_parenthesis) ∷ (part_pieces ss ps ts ++ (Kept (Marked mark_close_parenthesis) ∷ []))
connections_pieces ss ps (Names cs) =
    Kept (Marked mark_open_parenthesis) ∷ (separated_pieces (connection_pieces ss ps) cs ++ (Kept (Marked mark_close_parenthesis) ∷ []))

unfoldable pub child_pieces : List Site → List Pick → ModuleInstance → List Piece
child_pieces ss ps i = Kept (Named i.text) ∷ connections_pieces ss ps i.connections

-- an item; declarations of parameters, ranges, overrides, event lists, starting values and `initial` items stay
unfoldable pub item_pieces : List Site → List Pick → ModuleItem → List Piece
item_pieces ss ps (Ports p) = kept (spell_item (Ports p))
item_pieces ss ps (Nets signed range names) =
    Kept (Reserved keyword_wire) ∷ (kept (spell_type signed range) ++ (separated_pieces (net_pieces ss ps) names ++ (Kept (Marked mark_semicolon) ∷ [])))
item_pieces ss ps (Variables signed range names) = kept (spell_item (Variables signed range names))
item_pieces ss ps (Integers names) = kept (spell_item (Integers names))
item_pieces ss ps (Parameters p) = kept (spell_item (Parameters p))
item_pieces ss ps (Assigns pairs) = Kept (Reserved keyword_assign) ∷ (separated_pieces (pair_pieces ss ps) pairs ++ (Kept (Marked mark_semicolon) ∷ []))
item_pieces ss ps (Always events body token) =
    Kept (Reserved keyword_always) ∷ (Kept (Marked mark_at) ∷ (kept (spell_events events) ++ body_pieces ss ps (first_token body) body))
item_pieces ss ps (Initial s token) = kept (spell_item (Initial s token))
item_pieces ss ps (Instances m token overrides list) =
    Kept (Named m) ∷ (kept (spell_overrides overrides) ++ (separated_pieces (child_pieces ss ps) list ++ (Kept (Marked mark_semicolon) ∷ [])))

unfoldable pub module_pieces : List Site → List Pick → ModuleDeclaration → List Piece
module_pieces ss ps m =
    Kept (Reserved keyword_module) ∷
    (Kept (Named m.text) ∷
    (kept (spell_parameters m.params) ++
    (kept (spell_ports m.header m.groups) ++
    (Kept (Marked mark_semicolon) ∷ (all_pieces (item_pieces ss ps) m.items ++ (Kept (Reserved keyword_endmodule) ∷ []))))))

unfoldable pub source_pieces : List Site → List Pick → SourceText → List Piece
source_pieces ss ps s = all_pieces (module_pieces ss ps) s.modules

-- the edits of a choice
abbrev pub edits_of : List Site → List Pick → SourceText → List Edit
edits_of ss ps s = edits (source_pieces ss ps s)

-- the bytes that a choice prints, from the bytes of a source and its tokens
abbrev pub printed : List ℕ → List Lexeme → List Site → List Pick → SourceText → List ℕ
printed bytes tokens ss ps s = patched 0 bytes tokens (edits_of ss ps s)
