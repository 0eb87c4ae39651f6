-- The equations of the spellings, for proofs in which these stay closed.
use Rattle.std.proofs.Common.{◌≡◌, ℕ, Bool, cond, List, [], ◌∷◌, ◌++◌, codes, Option, refl}
use Rattle.rr_syntax.specs.declared.token.Number.{Number}
use Rattle.rr_syntax.specs.Words.{Named, System, Digits, Reserved, Marked, mark_open_parenthesis, mark_close_parenthesis, mark_open_bracket, mark_close_bracket, mark_open_brace, mark_close_brace, mark_comma, mark_colon, mark_semicolon, mark_equals, mark_less_or_equal, mark_question, mark_part_up, mark_part_down, keyword_begin, keyword_default, keyword_else, keyword_end, keyword_endcase, keyword_for, keyword_if}
use Rattle.rr_syntax.specs.Tree.{Tree, Trees, Name, Literal, Bit, Part, Indexed, Unary, Binary, Cond, Concat, Repeat, Cast, Paren, End, More, Identifier, LoopHead, Statement, Statements, Arm, Arms, Null, Block, If, IfElse, Case, Assign, For, Done, Then, CaseItem, NoArms, MoreArms}
use Rattle.rr_syntax.specs.Expressions.{spell, spell_parts, spell_more}
use Rattle.rr_syntax.specs.Statements.{spell_label, spell_labels, spell_loop, spell_statement, spell_statements, spell_arm, spell_arms}

pub spell-Name : (n : ℕ) (s : List ℕ) → spell (Name n s) ≡ Named s ∷ []
unfolding spell
spell-Name n s = refl

pub spell-Literal : (n : ℕ) (d : Number) → spell (Literal n d) ≡ Digits d ∷ []
unfolding spell
spell-Literal n d = refl

pub spell-Bit : (n : ℕ) (s : List ℕ) (i : Tree) → spell (Bit n s i) ≡ Named s ∷ (Marked mark_open_bracket ∷ (spell i ++ (Marked mark_close_bracket ∷ [])))
unfolding spell
spell-Bit n s i = refl

pub spell-Part : (n : ℕ) (s : List ℕ) (l r : Tree) → spell (Part n s l r) ≡ Named s ∷ (Marked mark_open_bracket ∷ (spell l ++ (Marked mark_colon ∷ (spell r ++ (Marked mark_close_bracket ∷ [])))))
unfolding spell
spell-Part n s l r = refl

pub spell-Indexed : (n : ℕ) (s : List ℕ) (f w : Tree) (up : Bool) → spell (Indexed n s f w up) ≡ Named s ∷ (Marked mark_open_bracket ∷ (spell f ++ (Marked (cond up mark_part_up mark_part_down) ∷ (spell w ++ (Marked mark_close_bracket ∷ [])))))
unfolding spell
spell-Indexed n s f w up = refl

pub spell-Unary : (m : ℕ) (t : Tree) → spell (Unary m t) ≡ Marked m ∷ spell t
unfolding spell
spell-Unary m t = refl

pub spell-Binary : (m : ℕ) (l r : Tree) → spell (Binary m l r) ≡ spell l ++ (Marked m ∷ spell r)
unfolding spell
spell-Binary m l r = refl

pub spell-Cond : (a b c : Tree) → spell (Cond a b c) ≡ spell a ++ (Marked mark_question ∷ (spell b ++ (Marked mark_colon ∷ spell c)))
unfolding spell
spell-Cond a b c = refl

pub spell-Concat : (ts : Trees) → spell (Concat ts) ≡ Marked mark_open_brace ∷ (spell_parts ts ++ (Marked mark_close_brace ∷ []))
unfolding spell
spell-Concat ts = refl

pub spell-Repeat : (t : Tree) (ts : Trees) → spell (Repeat t ts) ≡ Marked mark_open_brace ∷ (spell t ++ (Marked mark_open_brace ∷ (spell_parts ts ++ (Marked mark_close_brace ∷ (Marked mark_close_brace ∷ [])))))
unfolding spell
spell-Repeat t ts = refl

pub spell-Cast : (signed : Bool) (t : Tree) → spell (Cast signed t) ≡ System (cond signed (codes "signed") (codes "unsigned")) ∷ (Marked mark_open_parenthesis ∷ (spell t ++ (Marked mark_close_parenthesis ∷ [])))
unfolding spell
spell-Cast signed t = refl

pub spell-Paren : (t : Tree) → spell (Paren t) ≡ Marked mark_open_parenthesis ∷ (spell t ++ (Marked mark_close_parenthesis ∷ []))
unfolding spell
spell-Paren t = refl

pub parts-End : spell_parts End ≡ []
unfolding spell
parts-End = refl

pub parts-More : (t : Tree) (ts : Trees) → spell_parts (More t ts) ≡ spell t ++ spell_more ts
unfolding spell
parts-More t ts = refl

pub more-End : spell_more End ≡ []
unfolding spell
more-End = refl

pub more-More : (t : Tree) (ts : Trees) → spell_more (More t ts) ≡ Marked mark_comma ∷ (spell t ++ spell_more ts)
unfolding spell
more-More t ts = refl

pub ruleset spellings =
    (spell-Name, spell-Literal, spell-Bit, spell-Part, spell-Indexed, spell-Unary, spell-Binary, spell-Cond, spell-Concat, spell-Repeat, spell-Cast, spell-Paren, parts-End, parts-More, more-End, more-More)

pub labels-End : (colon : Bool) → spell_labels End colon ≡ Reserved keyword_default ∷ cond colon (Marked mark_colon ∷ []) []
unfolding spell_labels
labels-End colon = refl

pub labels-More : (t : Tree) (ts : Trees) (colon : Bool) → spell_labels (More t ts) colon ≡ spell_parts (More t ts) ++ (Marked mark_colon ∷ [])
unfolding spell_labels
labels-More t ts colon = refl

-- apart from the equations of statements, in which a loop's head stays closed
pub loop-Head : (h : LoopHead) → spell_loop h ≡
    Marked mark_open_parenthesis ∷ (Named h.text ∷ (Marked mark_equals ∷ (spell h.start ++ (Marked mark_semicolon ∷ (spell h.test ++ (Marked mark_semicolon ∷ (Named h.step_text ∷ (Marked mark_equals ∷ (spell h.step ++ (Marked mark_close_parenthesis ∷ []))))))))))
unfolding spell_loop
loop-Head h = refl

pub statement-Null : spell_statement Null ≡ Marked mark_semicolon ∷ []
unfolding spell_statement
statement-Null = refl

pub statement-Block : (label : Option Identifier) (ss : Statements) → spell_statement (Block label ss) ≡ Reserved keyword_begin ∷ (spell_label label ++ (spell_statements ss ++ (Reserved keyword_end ∷ [])))
unfolding spell_statement
statement-Block label ss = refl

pub statement-If : (t : Tree) (s : Statement) → spell_statement (If t s) ≡ Reserved keyword_if ∷ (Marked mark_open_parenthesis ∷ (spell t ++ (Marked mark_close_parenthesis ∷ spell_statement s)))
unfolding spell_statement
statement-If t s = refl

pub statement-IfElse : (t : Tree) (s u : Statement) → spell_statement (IfElse t s u) ≡ Reserved keyword_if ∷ (Marked mark_open_parenthesis ∷ (spell t ++ (Marked mark_close_parenthesis ∷ (spell_statement s ++ (Reserved keyword_else ∷ spell_statement u)))))
unfolding spell_statement
statement-IfElse t s u = refl

pub statement-Case : (kind : ℕ) (t : Tree) (arms : Arms) → spell_statement (Case kind t arms) ≡ Reserved kind ∷ (Marked mark_open_parenthesis ∷ (spell t ++ (Marked mark_close_parenthesis ∷ (spell_arms arms ++ (Reserved keyword_endcase ∷ [])))))
unfolding spell_statement
statement-Case kind t arms = refl

pub statement-Assign : (t : Tree) (now : Bool) (v : Tree) → spell_statement (Assign t now v) ≡ spell t ++ (Marked (cond now mark_equals mark_less_or_equal) ∷ (spell v ++ (Marked mark_semicolon ∷ [])))
unfolding spell_statement
statement-Assign t now v = refl

pub statement-For : (h : LoopHead) (s : Statement) → spell_statement (For h s) ≡ Reserved keyword_for ∷ (spell_loop h ++ spell_statement s)
unfolding spell_statement
statement-For h s = refl

pub statements-Done : spell_statements Done ≡ []
unfolding spell_statement
statements-Done = refl

pub statements-Then : (s : Statement) (ss : Statements) → spell_statements (Then s ss) ≡ spell_statement s ++ spell_statements ss
unfolding spell_statement
statements-Then s ss = refl

pub arm-CaseItem : (labels : Trees) (colon : Bool) (s : Statement) → spell_arm (CaseItem labels colon s) ≡ spell_labels labels colon ++ spell_statement s
unfolding spell_statement
arm-CaseItem labels colon s = refl

pub arms-NoArms : spell_arms NoArms ≡ []
unfolding spell_statement
arms-NoArms = refl

pub arms-MoreArms : (a : Arm) (rest : Arms) → spell_arms (MoreArms a rest) ≡ spell_arm a ++ spell_arms rest
unfolding spell_statement
arms-MoreArms a rest = refl

pub ruleset statement_spellings =
    (labels-End, labels-More, statement-Null, statement-Block, statement-If, statement-IfElse, statement-Case, statement-Assign, statement-For, statements-Done, statements-Then, arm-CaseItem, arms-NoArms, arms-MoreArms)
