-- Statements (IEEE 1364-2005 section 9, annex A.6): their spelling, the rules that well-formed ones keep,
-- their depth, and the numbers of their tokens.
use Rattle.std.specs.Prelude.{ℕ, suc, ◌+◌, ◌≤◌, ◌≡◌, max, List, [], ◌∷◌, ◌++◌, length, IsTrue, ◌==◌, ◌||◌, ◌&&◌, Bool, true, false, cond, Option, None, Some}
use Rattle.rr_syntax.specs.Words.{Word, Named, Reserved, Marked, keyword_begin, keyword_case, keyword_casex, keyword_casez, keyword_default, keyword_else, keyword_end, keyword_endcase, keyword_for, keyword_if, mark_open_parenthesis, mark_close_parenthesis, mark_colon, mark_semicolon, mark_equals, mark_less_or_equal}
use Rattle.rr_syntax.specs.Tree.{Tree, Name, Literal, Bit, Part, Indexed, Unary, Binary, Cond, Concat, Repeat, Cast, Paren, Trees, End, More, Identifier, LoopHead, Statement, Statements, Arm, Arms, Null, Block, If, IfElse, Case, Assign, For, Done, Then, CaseItem, NoArms, MoreArms}
use Rattle.rr_syntax.specs.Expressions.{spell, spell_parts, WellFormed, WellFormedMore, is_target, depth, height, Numbered, NumberedMore, FitLiterals, FitLiteralsParts}

-- an `else` after the statement would belong to it (section 9.4)
unfoldable pub is_open : Statement → Bool
is_open Null = false
is_open (Block label ss) = false
is_open (If t s) = true
is_open (IfElse t s u) = is_open u
is_open (Case kind t arms) = false
is_open (Assign t now v) = false
is_open (For h s) = is_open s

-- a bare name, or a bare name with one index: a variable, or a word of a memory
abbrev pub is_cell : Tree → Bool
is_cell (Name token text) = true
is_cell (Literal token n) = false
is_cell (Bit token text i) = true
is_cell (Part token text l r) = false
is_cell (Indexed token text f w up) = false
is_cell (Unary op t) = false
is_cell (Binary op l r) = false
is_cell (Cond a b c) = false
is_cell (Concat ts) = false
is_cell (Repeat t ts) = false
is_cell (Cast signed t) = false
is_cell (Paren t) = false

-- what an `initial` item may hold: `;`, blocks, loops, and variables and words of memories that are set by `=` (section 9.9.1)
unfoldable mutual
  pub is_initial : Statement → Bool
  is_initial Null = true
  is_initial (Block label ss) = are_initial ss
  is_initial (If t s) = false
  is_initial (IfElse t s u) = false
  is_initial (Case kind t arms) = false
  is_initial (Assign t now v) = now && is_cell t
  is_initial (For h s) = is_initial s

  pub are_initial : Statements → Bool
  are_initial Done = true
  are_initial (Then s ss) = is_initial s && are_initial ss

-- the name of a block (section 9.8.1)
unfoldable pub spell_label : Option Identifier → List Word
spell_label None = []
spell_label (Some i) = Marked mark_colon ∷ (Named i.text ∷ [])

-- labels and their colon, or `default` with or without one (section 9.5)
unfoldable pub spell_labels : Trees → Bool → List Word
spell_labels End colon = Reserved keyword_default ∷ cond colon (Marked mark_colon ∷ []) []
spell_labels (More t ts) colon = spell_parts (More t ts) ++ (Marked mark_colon ∷ [])

-- `( NAME = start ; test ; NAME = step )` (section 9.6)
unfoldable pub spell_loop : LoopHead → List Word
spell_loop h =
    Marked mark_open_parenthesis ∷ (Named h.text ∷ (Marked mark_equals ∷ (spell h.start ++ (Marked mark_semicolon ∷ (spell h.test ++ (Marked mark_semicolon ∷ (Named h.step_text ∷ (Marked mark_equals ∷ (spell h.step ++ (Marked mark_close_parenthesis ∷ []))))))))))

-- the tokens that spell a statement
unfoldable mutual
  pub spell_statement : Statement → List Word
  spell_statement Null = Marked mark_semicolon ∷ []
  spell_statement (Block label ss) = Reserved keyword_begin ∷ (spell_label label ++ (spell_statements ss ++ (Reserved keyword_end ∷ [])))
  spell_statement (If t s) = Reserved keyword_if ∷ (Marked mark_open_parenthesis ∷ (spell t ++ (Marked mark_close_parenthesis ∷ spell_statement s)))
  spell_statement (IfElse t s u) = Reserved keyword_if ∷ (Marked mark_open_parenthesis ∷ (spell t ++ (Marked mark_close_parenthesis ∷ (spell_statement s ++ (Reserved keyword_else ∷ spell_statement u)))))
  spell_statement (Case kind t arms) = Reserved kind ∷ (Marked mark_open_parenthesis ∷ (spell t ++ (Marked mark_close_parenthesis ∷ (spell_arms arms ++ (Reserved keyword_endcase ∷ [])))))
  spell_statement (Assign t now v) = spell t ++ (Marked (cond now mark_equals mark_less_or_equal) ∷ (spell v ++ (Marked mark_semicolon ∷ [])))
  spell_statement (For h s) = Reserved keyword_for ∷ (spell_loop h ++ spell_statement s)

  pub spell_statements : Statements → List Word
  spell_statements Done = []
  spell_statements (Then s ss) = spell_statement s ++ spell_statements ss

  pub spell_arm : Arm → List Word
  spell_arm (CaseItem labels colon s) = spell_labels labels colon ++ spell_statement s

  pub spell_arms : Arms → List Word
  spell_arms NoArms = []
  spell_arms (MoreArms a rest) = spell_arm a ++ spell_arms rest

-- `case`, `casez` or `casex`
abbrev pub is_case : ℕ → Bool
is_case kind = kind == keyword_case || kind == keyword_casez || kind == keyword_casex

-- an arm with labels has its colon
abbrev pub HasColon : Trees → Bool → Type 0
HasColon End colon = Unit {0}
HasColon (More t ts) colon = IsTrue colon

-- the number of arms without labels
unfoldable pub defaults : Arms → ℕ
defaults NoArms = 0
defaults (MoreArms (CaseItem End colon s) rest) = suc (defaults rest)
defaults (MoreArms (CaseItem (More t ts) colon s) rest) = defaults rest

-- one arm or more, of which one at most is the default
abbrev pub HasArms : Arms → Type 0
HasArms NoArms = ⊥
HasArms (MoreArms a rest) = defaults (MoreArms a rest) ≤ 1

-- the first value, the test and the step of a loop are well-formed
unfoldable pub WellFormedLoop : LoopHead → Type 0
WellFormedLoop h = WellFormed h.start × WellFormed h.test × WellFormed h.step

-- an `else` belongs to the nearest `if` that has none: so the first part of an `if` with `else` is not open (section 9.4)
unfoldable mutual
  pub WellFormedStatement : Statement → Type 0
  WellFormedStatement Null = Unit {0}
  WellFormedStatement (Block label ss) = WellFormedStatements ss
  WellFormedStatement (If t s) = WellFormed t × WellFormedStatement s
  WellFormedStatement (IfElse t s u) = WellFormed t × WellFormedStatement s × (is_open s ≡ false) × WellFormedStatement u
  WellFormedStatement (Case kind t arms) = IsTrue (is_case kind) × WellFormed t × HasArms arms × WellFormedArms arms
  WellFormedStatement (Assign t now v) = IsTrue (is_target t) × WellFormed t × WellFormed v
  WellFormedStatement (For h s) = WellFormedLoop h × WellFormedStatement s

  pub WellFormedStatements : Statements → Type 0
  WellFormedStatements Done = Unit {0}
  WellFormedStatements (Then s ss) = WellFormedStatement s × WellFormedStatements ss

  pub WellFormedArm : Arm → Type 0
  WellFormedArm (CaseItem labels colon s) = WellFormedMore labels × HasColon labels colon × WellFormedStatement s

  pub WellFormedArms : Arms → Type 0
  WellFormedArms NoArms = Unit {0}
  WellFormedArms (MoreArms a rest) = WellFormedArm a × WellFormedArms rest

-- the greatest depth of a loop's three expressions
unfoldable pub depth_loop : LoopHead → ℕ
depth_loop h = max (depth h.start) (max (depth h.test) (depth h.step))

-- the levels of nodes below the root
unfoldable mutual
  pub depth_statement : Statement → ℕ
  depth_statement Null = 0
  depth_statement (Block label ss) = height_statements ss
  depth_statement (If t s) = suc (max (depth t) (depth_statement s))
  depth_statement (IfElse t s u) = suc (max (depth t) (max (depth_statement s) (depth_statement u)))
  depth_statement (Case kind t arms) = max (suc (depth t)) (height_arms arms)
  depth_statement (Assign t now v) = suc (max (depth t) (depth v))
  depth_statement (For h s) = suc (max (depth_loop h) (depth_statement s))

  pub height_statements : Statements → ℕ
  height_statements Done = 0
  height_statements (Then s ss) = max (suc (depth_statement s)) (height_statements ss)

  pub depth_arm : Arm → ℕ
  depth_arm (CaseItem labels colon s) = max (height labels) (suc (depth_statement s))

  pub height_arms : Arms → ℕ
  height_arms NoArms = 0
  height_arms (MoreArms a rest) = max (suc (depth_arm a)) (height_arms rest)

-- the name of a block has the number after that of its colon
unfoldable pub NumberedLabel : Option Identifier → ℕ → Type 0
NumberedLabel None at = Unit {0}
NumberedLabel (Some i) at = i.token ≡ at + 1

-- the labels of an arm that begins at token `at`
unfoldable pub NumberedLabels : Trees → ℕ → Type 0
NumberedLabels End at = Unit {0}
NumberedLabels (More t ts) at = Numbered t at × NumberedMore ts (at + length (spell t))

-- the names and expressions of a loop whose opening bracket has the number `at`
unfoldable pub NumberedLoop : LoopHead → ℕ → Type 0
NumberedLoop h at =
    (h.token ≡ at + 1) × Numbered h.start (at + 3) × Numbered h.test (at + 3 + length (spell h.start) + 1) × (h.step_token ≡ at + 3 + length (spell h.start) + 1 + length (spell h.test) + 1) × Numbered h.step (at + 3 + length (spell h.start) + 1 + length (spell h.test) + 3)

-- each leaf and name has the number of its token, where the first token of the statement is number `at`
unfoldable mutual
  pub NumberedStatement : Statement → ℕ → Type 0
  NumberedStatement Null at = Unit {0}
  NumberedStatement (Block label ss) at = NumberedLabel label (at + 1) × NumberedStatements ss (at + 1 + length (spell_label label))
  NumberedStatement (If t s) at = Numbered t (at + 2) × NumberedStatement s (at + 2 + length (spell t) + 1)
  NumberedStatement (IfElse t s u) at =
      Numbered t (at + 2) × NumberedStatement s (at + 2 + length (spell t) + 1) × NumberedStatement u (at + 2 + length (spell t) + 1 + length (spell_statement s) + 1)
  NumberedStatement (Case kind t arms) at = Numbered t (at + 2) × NumberedArms arms (at + 2 + length (spell t) + 1)
  NumberedStatement (Assign t now v) at = Numbered t at × Numbered v (at + length (spell t) + 1)
  NumberedStatement (For h s) at = NumberedLoop h (at + 1) × NumberedStatement s (at + 1 + length (spell_loop h))

  pub NumberedStatements : Statements → ℕ → Type 0
  NumberedStatements Done at = Unit {0}
  NumberedStatements (Then s ss) at = NumberedStatement s at × NumberedStatements ss (at + length (spell_statement s))

  pub NumberedArm : Arm → ℕ → Type 0
  NumberedArm (CaseItem labels colon s) at = NumberedLabels labels at × NumberedStatement s (at + length (spell_labels labels colon))

  pub NumberedArms : Arms → ℕ → Type 0
  NumberedArms NoArms at = Unit {0}
  NumberedArms (MoreArms a rest) at = NumberedArm a at × NumberedArms rest (at + length (spell_arm a))

-- each literal of a loop's three expressions is fit
unfoldable pub FitLiteralsLoop : LoopHead → Type 0
FitLiteralsLoop h = FitLiterals h.start × FitLiterals h.test × FitLiterals h.step

-- each literal of a statement is fit
unfoldable mutual
  pub FitLiteralsStatement : Statement → Type 0
  FitLiteralsStatement Null = Unit {0}
  FitLiteralsStatement (Block label ss) = FitLiteralsStatements ss
  FitLiteralsStatement (If t s) = FitLiterals t × FitLiteralsStatement s
  FitLiteralsStatement (IfElse t s u) = FitLiterals t × FitLiteralsStatement s × FitLiteralsStatement u
  FitLiteralsStatement (Case kind t arms) = FitLiterals t × FitLiteralsArms arms
  FitLiteralsStatement (Assign t now v) = FitLiterals t × FitLiterals v
  FitLiteralsStatement (For h s) = FitLiteralsLoop h × FitLiteralsStatement s

  pub FitLiteralsStatements : Statements → Type 0
  FitLiteralsStatements Done = Unit {0}
  FitLiteralsStatements (Then s ss) = FitLiteralsStatement s × FitLiteralsStatements ss

  pub FitLiteralsArm : Arm → Type 0
  FitLiteralsArm (CaseItem labels colon s) = FitLiteralsParts labels × FitLiteralsStatement s

  pub FitLiteralsArms : Arms → Type 0
  FitLiteralsArms NoArms = Unit {0}
  FitLiteralsArms (MoreArms a rest) = FitLiteralsArm a × FitLiteralsArms rest
