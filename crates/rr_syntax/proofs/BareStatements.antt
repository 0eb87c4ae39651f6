-- A statement with every token number 0 keeps its spelling, its rules and its measures.
use Rattle.std.proofs.Common.{◌≡◌, ◌≤◌, Bool, ◌&&◌, suc, [], ◌∷◌, ◌++◌, Option, None, Some, refl, ap}
use Rattle.rr_syntax.specs.Words.{Marked, mark_colon}
use Rattle.rr_syntax.specs.Tree.{Tree, Name, Literal, Bit, Part, Indexed, Unary, Binary, Cond, Concat, Repeat, Cast, Paren, Trees, End, More, Identifier, LoopHead, Statement, Statements, Arm, Arms, Null, Block, If, IfElse, Case, Assign, For, Done, Then, CaseItem, NoArms, MoreArms, bare, bare_parts, bare_identifier, bare_label, bare_loop, bare_statement, bare_statements, bare_arm, bare_arms}
use Rattle.rr_syntax.specs.Statements.{is_open, is_cell, is_initial, are_initial, spell_label, spell_labels, spell_loop, spell_statement, spell_statements, spell_arm, spell_arms, HasColon, defaults, HasArms, WellFormedLoop, WellFormedStatement, WellFormedStatements, WellFormedArm, WellFormedArms, depth_loop, depth_statement, height_statements, depth_arm, height_arms, FitLiteralsLoop, FitLiteralsStatement, FitLiteralsStatements, FitLiteralsArm, FitLiteralsArms}
use Rattle.rr_syntax.proofs.BareExpressions.{spell-bare, spell_parts-bare, WellFormed-bare, WellFormedMore-bare, is_target-bare, depth-bare, height-bare, FitLiterals-bare, FitLiteralsParts-bare, bare-bare, bare_parts-bare}

pub is_open-bare : (s : Statement) → is_open (bare_statement s) ≡ is_open s
unfolding is_open bare_statement
is_open-bare Null = refl
is_open-bare (Block label ss) = refl
is_open-bare (If t s) = refl
is_open-bare (IfElse t s u) = is_open-bare u
is_open-bare (Case kind t arms) = refl
is_open-bare (Assign t now v) = refl
is_open-bare (For h s) = is_open-bare s

pub is_cell-bare : (t : Tree) → is_cell (bare t) ≡ is_cell t
unfolding bare
is_cell-bare (Name token text) = refl
is_cell-bare (Literal token n) = refl
is_cell-bare (Bit token text i) = refl
is_cell-bare (Part token text l r) = refl
is_cell-bare (Indexed token text f w up) = refl
is_cell-bare (Unary op t) = refl
is_cell-bare (Binary op l r) = refl
is_cell-bare (Cond a b c) = refl
is_cell-bare (Concat ts) = refl
is_cell-bare (Repeat t ts) = refl
is_cell-bare (Cast signed t) = refl
is_cell-bare (Paren t) = refl

mutual
  unfolding is_initial bare_statement

  pub is_initial-bare : (s : Statement) → is_initial (bare_statement s) ≡ is_initial s
  is_initial-bare Null = refl
  is_initial-bare (Block label ss) = are_initial-bare ss
  is_initial-bare (If t s) = refl
  is_initial-bare (IfElse t s u) = refl
  is_initial-bare (Case kind t arms) = refl
  is_initial-bare (Assign t now v) = ap (λ b. now && b) (is_cell-bare t)
  is_initial-bare (For h s) = is_initial-bare s

  pub are_initial-bare : (ss : Statements) → are_initial (bare_statements ss) ≡ are_initial ss
  are_initial-bare Done = refl
  are_initial-bare (Then s ss) = rw (is_initial-bare s, are_initial-bare ss) refl

pub spell_label-bare : (l : Option Identifier) → spell_label (bare_label l) ≡ spell_label l
unfolding spell_label bare_label bare_identifier
spell_label-bare None = refl
spell_label-bare (Some i) = refl

pub spell_labels-bare : (ts : Trees) (colon : Bool) → spell_labels (bare_parts ts) colon ≡ spell_labels ts colon
unfolding spell_labels bare
spell_labels-bare End colon = refl
spell_labels-bare (More t ts) colon = ap (λ ws. ws ++ (Marked mark_colon ∷ [])) (spell_parts-bare (More t ts))

pub spell_loop-bare : (h : LoopHead) → spell_loop (bare_loop h) ≡ spell_loop h
unfolding spell_loop bare_loop
spell_loop-bare h = rw (spell-bare h.start, spell-bare h.test, spell-bare h.step) refl

mutual
  unfolding spell_statement bare_statement

  pub spell_statement-bare : (s : Statement) → spell_statement (bare_statement s) ≡ spell_statement s
  spell_statement-bare Null = refl
  spell_statement-bare (Block label ss) = rw (spell_label-bare label, spell_statements-bare ss) refl
  spell_statement-bare (If t s) = rw (spell-bare t, spell_statement-bare s) refl
  spell_statement-bare (IfElse t s u) = rw (spell-bare t, spell_statement-bare s, spell_statement-bare u) refl
  spell_statement-bare (Case kind t arms) = rw (spell-bare t, spell_arms-bare arms) refl
  spell_statement-bare (Assign t now v) = rw (spell-bare t, spell-bare v) refl
  spell_statement-bare (For h s) = rw (spell_loop-bare h, spell_statement-bare s) refl

  pub spell_statements-bare : (ss : Statements) → spell_statements (bare_statements ss) ≡ spell_statements ss
  spell_statements-bare Done = refl
  spell_statements-bare (Then s ss) = rw (spell_statement-bare s, spell_statements-bare ss) refl

  pub spell_arm-bare : (a : Arm) → spell_arm (bare_arm a) ≡ spell_arm a
  spell_arm-bare (CaseItem labels colon s) = rw (spell_labels-bare labels colon, spell_statement-bare s) refl

  pub spell_arms-bare : (arms : Arms) → spell_arms (bare_arms arms) ≡ spell_arms arms
  spell_arms-bare NoArms = refl
  spell_arms-bare (MoreArms a rest) = rw (spell_arm-bare a, spell_arms-bare rest) refl

HasColon-bare : (ts : Trees) (colon : Bool) → HasColon (bare_parts ts) colon ≡ HasColon ts colon
unfolding bare
HasColon-bare End colon = refl
HasColon-bare (More t ts) colon = refl

pub defaults-bare : (arms : Arms) → defaults (bare_arms arms) ≡ defaults arms
unfolding defaults bare bare_statement
defaults-bare NoArms = refl
defaults-bare (MoreArms (CaseItem End colon s) rest) = ap suc (defaults-bare rest)
defaults-bare (MoreArms (CaseItem (More t ts) colon s) rest) = defaults-bare rest

HasArms-bare : (arms : Arms) → HasArms (bare_arms arms) ≡ HasArms arms
unfolding bare_statement
HasArms-bare NoArms = refl
HasArms-bare (MoreArms a rest) = ap (λ n. n ≤ 1) (defaults-bare (MoreArms a rest))

pub WellFormedLoop-bare : (h : LoopHead) → WellFormedLoop (bare_loop h) ≡ WellFormedLoop h
unfolding WellFormedLoop bare_loop
WellFormedLoop-bare h = rw (WellFormed-bare h.start, WellFormed-bare h.test, WellFormed-bare h.step) refl

mutual
  unfolding WellFormedStatement bare_statement

  pub WellFormedStatement-bare : (s : Statement) → WellFormedStatement (bare_statement s) ≡ WellFormedStatement s
  WellFormedStatement-bare Null = refl
  WellFormedStatement-bare (Block label ss) = WellFormedStatements-bare ss
  WellFormedStatement-bare (If t s) = rw (WellFormed-bare t, WellFormedStatement-bare s) refl
  WellFormedStatement-bare (IfElse t s u) = rw (WellFormed-bare t, WellFormedStatement-bare s, is_open-bare s, WellFormedStatement-bare u) refl
  WellFormedStatement-bare (Case kind t arms) = rw (WellFormed-bare t, HasArms-bare arms, WellFormedArms-bare arms) refl
  WellFormedStatement-bare (Assign t now v) = rw (is_target-bare t, WellFormed-bare t, WellFormed-bare v) refl
  WellFormedStatement-bare (For h s) = rw (WellFormedLoop-bare h, WellFormedStatement-bare s) refl

  pub WellFormedStatements-bare : (ss : Statements) → WellFormedStatements (bare_statements ss) ≡ WellFormedStatements ss
  WellFormedStatements-bare Done = refl
  WellFormedStatements-bare (Then s ss) = rw (WellFormedStatement-bare s, WellFormedStatements-bare ss) refl

  pub WellFormedArm-bare : (a : Arm) → WellFormedArm (bare_arm a) ≡ WellFormedArm a
  WellFormedArm-bare (CaseItem labels colon s) = rw (WellFormedMore-bare labels, HasColon-bare labels colon, WellFormedStatement-bare s) refl

  pub WellFormedArms-bare : (arms : Arms) → WellFormedArms (bare_arms arms) ≡ WellFormedArms arms
  WellFormedArms-bare NoArms = refl
  WellFormedArms-bare (MoreArms a rest) = rw (WellFormedArm-bare a, WellFormedArms-bare rest) refl

pub depth_loop-bare : (h : LoopHead) → depth_loop (bare_loop h) ≡ depth_loop h
unfolding depth_loop bare_loop
depth_loop-bare h = rw (depth-bare h.start, depth-bare h.test, depth-bare h.step) refl

mutual
  unfolding depth_statement bare_statement

  pub depth_statement-bare : (s : Statement) → depth_statement (bare_statement s) ≡ depth_statement s
  depth_statement-bare Null = refl
  depth_statement-bare (Block label ss) = height_statements-bare ss
  depth_statement-bare (If t s) = rw (depth-bare t, depth_statement-bare s) refl
  depth_statement-bare (IfElse t s u) = rw (depth-bare t, depth_statement-bare s, depth_statement-bare u) refl
  depth_statement-bare (Case kind t arms) = rw (depth-bare t, height_arms-bare arms) refl
  depth_statement-bare (Assign t now v) = rw (depth-bare t, depth-bare v) refl
  depth_statement-bare (For h s) = rw (depth_loop-bare h, depth_statement-bare s) refl

  pub height_statements-bare : (ss : Statements) → height_statements (bare_statements ss) ≡ height_statements ss
  height_statements-bare Done = refl
  height_statements-bare (Then s ss) = rw (depth_statement-bare s, height_statements-bare ss) refl

  pub depth_arm-bare : (a : Arm) → depth_arm (bare_arm a) ≡ depth_arm a
  depth_arm-bare (CaseItem labels colon s) = rw (height-bare labels, depth_statement-bare s) refl

  pub height_arms-bare : (arms : Arms) → height_arms (bare_arms arms) ≡ height_arms arms
  height_arms-bare NoArms = refl
  height_arms-bare (MoreArms a rest) = rw (depth_arm-bare a, height_arms-bare rest) refl

pub FitLiteralsLoop-bare : (h : LoopHead) → FitLiteralsLoop (bare_loop h) ≡ FitLiteralsLoop h
unfolding FitLiteralsLoop bare_loop
FitLiteralsLoop-bare h = rw (FitLiterals-bare h.start, FitLiterals-bare h.test, FitLiterals-bare h.step) refl

mutual
  unfolding FitLiteralsStatement bare_statement

  pub FitLiteralsStatement-bare : (s : Statement) → FitLiteralsStatement (bare_statement s) ≡ FitLiteralsStatement s
  FitLiteralsStatement-bare Null = refl
  FitLiteralsStatement-bare (Block label ss) = FitLiteralsStatements-bare ss
  FitLiteralsStatement-bare (If t s) = rw (FitLiterals-bare t, FitLiteralsStatement-bare s) refl
  FitLiteralsStatement-bare (IfElse t s u) = rw (FitLiterals-bare t, FitLiteralsStatement-bare s, FitLiteralsStatement-bare u) refl
  FitLiteralsStatement-bare (Case kind t arms) = rw (FitLiterals-bare t, FitLiteralsArms-bare arms) refl
  FitLiteralsStatement-bare (Assign t now v) = rw (FitLiterals-bare t, FitLiterals-bare v) refl
  FitLiteralsStatement-bare (For h s) = rw (FitLiteralsLoop-bare h, FitLiteralsStatement-bare s) refl

  pub FitLiteralsStatements-bare : (ss : Statements) → FitLiteralsStatements (bare_statements ss) ≡ FitLiteralsStatements ss
  FitLiteralsStatements-bare Done = refl
  FitLiteralsStatements-bare (Then s ss) = rw (FitLiteralsStatement-bare s, FitLiteralsStatements-bare ss) refl

  pub FitLiteralsArm-bare : (a : Arm) → FitLiteralsArm (bare_arm a) ≡ FitLiteralsArm a
  FitLiteralsArm-bare (CaseItem labels colon s) = rw (FitLiteralsParts-bare labels, FitLiteralsStatement-bare s) refl

  pub FitLiteralsArms-bare : (arms : Arms) → FitLiteralsArms (bare_arms arms) ≡ FitLiteralsArms arms
  FitLiteralsArms-bare NoArms = refl
  FitLiteralsArms-bare (MoreArms a rest) = rw (FitLiteralsArm-bare a, FitLiteralsArms-bare rest) refl

bare_label-bare : (l : Option Identifier) → bare_label (bare_label l) ≡ bare_label l
unfolding bare_label bare_identifier
bare_label-bare None = refl
bare_label-bare (Some i) = refl

pub bare_loop-bare : (h : LoopHead) → bare_loop (bare_loop h) ≡ bare_loop h
unfolding bare_loop
bare_loop-bare h = rw (bare-bare h.start, bare-bare h.test, bare-bare h.step) refl

mutual
  unfolding bare_statement

  pub bare_statement-bare : (s : Statement) → bare_statement (bare_statement s) ≡ bare_statement s
  bare_statement-bare Null = refl
  bare_statement-bare (Block label ss) = rw (bare_label-bare label, bare_statements-bare ss) refl
  bare_statement-bare (If t s) = rw (bare-bare t, bare_statement-bare s) refl
  bare_statement-bare (IfElse t s u) = rw (bare-bare t, bare_statement-bare s, bare_statement-bare u) refl
  bare_statement-bare (Case kind t arms) = rw (bare-bare t, bare_arms-bare arms) refl
  bare_statement-bare (Assign t now v) = rw (bare-bare t, bare-bare v) refl
  bare_statement-bare (For h s) = rw (bare_loop-bare h, bare_statement-bare s) refl

  pub bare_statements-bare : (ss : Statements) → bare_statements (bare_statements ss) ≡ bare_statements ss
  bare_statements-bare Done = refl
  bare_statements-bare (Then s ss) = rw (bare_statement-bare s, bare_statements-bare ss) refl

  pub bare_arm-bare : (a : Arm) → bare_arm (bare_arm a) ≡ bare_arm a
  bare_arm-bare (CaseItem labels colon s) = rw (bare_parts-bare labels, bare_statement-bare s) refl

  pub bare_arms-bare : (arms : Arms) → bare_arms (bare_arms arms) ≡ bare_arms arms
  bare_arms-bare NoArms = refl
  bare_arms-bare (MoreArms a rest) = rw (bare_arm-bare a, bare_arms-bare rest) refl
