-- What the functions of the reader answer.
use Rattle.std.specs.Prelude.{ℕ, ◌+◌, ◌≡◌, ◌≤◌, ◌<◌, List, length, drop, Option, Some, None, true, Result, Ok, Err}
use Rattle.rr_syntax.specs.declared.token.Keyword.{Keyword}
use Rattle.rr_syntax.specs.declared.token.Token.{Token}
use Rattle.rr_syntax.specs.declared.tree.Expr.{Expr}
use Rattle.rr_syntax.specs.declared.tree.Stmt.{Stmt}
use Rattle.rr_syntax.specs.declared.tree.Arm.{Arm as Branch}
use Rattle.rr_syntax.specs.declared.tree.Named.{Named as NamedToken}
use Rattle.rr_syntax.specs.Words.{Word, words, mark_colon}
use Rattle.rr_syntax.specs.Tree.{Tree, Trees, More, Identifier, LoopHead, Statement, Statements, Arm, Arms, bare, bare_parts, bare_loop, bare_statement, bare_statements, bare_arm, bare_arms, bare_label}
use Rattle.rr_syntax.specs.Expressions.{spell, spell_more, is_target, Numbered}
use Rattle.rr_syntax.specs.Statements.{is_case, spell_label, spell_loop, spell_statement, spell_statements, spell_arm, spell_arms, NumberedLabel, NumberedLabels, NumberedLoop, NumberedStatement, NumberedStatements, NumberedArm, NumberedArms}
use Rattle.rr_syntax.specs.View.{plain, plain_list, plain_label, plain_loop, plain_statement, plain_statements, plain_arm, plain_arms}
use Rattle.rr_parse_expr.specs.declared.lists.Piece as Entry
use Rattle.rr_parse_expr.specs.declared.expression.ParseFault.{ParseFault}
use Rattle.rr_parse_expr.specs.declared.expression.ParseFault.TheVariants.{Unsupported, Syntax, Memory}
use Rattle.rr_parse_expr.specs.Reading.{Found, mark}
use Rattle.rr_parse_stmt.specs.declared.expressions.Placed.{Placed}
use Rattle.rr_parse_stmt.specs.declared.expressions.LabelList as labelling
use Rattle.rr_parse_stmt.specs.declared.heads.NamePiece.{NamePiece}
use Rattle.rr_parse_stmt.specs.declared.heads.HeadPiece.{HeadPiece}
use Rattle.rr_parse_stmt.specs.declared.nodes.Piece.{Piece}
use Rattle.rr_parse_stmt.specs.declared.nodes.ArmPiece.{ArmPiece}
use Rattle.rr_parse_stmt.specs.declared.nodes.LabelPiece.{LabelPiece}
use Rattle.rr_parse_stmt.specs.Reading.{NamedValue, keyword, name}
use denote.Ref.{Bor}

-- this reserved word stands at the front, and begins a `case`
pub record IsCaseWord (ws : List Word) (kind : Keyword) : Type 0 where
  pub stands : keyword ws ≡ kind.0
  pub begins : is_case kind.0 ≡ true

-- a name stands at the token `at`, or none does
abbrev pub AnswersName : List Token → ℕ → Option NamedToken → Type 0
AnswersName tokens at None = name (drop at (words tokens)) ≡ None
AnswersName tokens at (Some n) = (n.token ≡ at) × (name (drop at (words tokens)) ≡ Some (record { token = 0; text = n.name.now }, drop (at + 1) (words tokens))) × (at < length tokens)

-- an expression from the token `begin` on, and as many tokens more
pub record FindsTree (tokens : List Token) (begin more : ℕ) (found : Found Tree) (r : Placed) : Type 0 where
  pub found_is : found ≡ Some (bare (plain r.expr.now), drop r.next (words tokens))
  pub within : r.next ≤ length tokens
  pub taken : r.next ≡ begin + length (spell (plain r.expr.now)) + more
  pub numbered : Numbered (plain r.expr.now) begin

abbrev pub AnswersTree : List Token → ℕ → ℕ → Found Tree → Option Placed → Type 0
AnswersTree tokens begin more found None = found ≡ None
AnswersTree tokens begin more found (Some r) = FindsTree tokens begin more found r

-- a target from the token `begin` on
pub record FindsTarget (tokens : List Token) (begin : ℕ) (found : Found Tree) (r : Placed) : Type 0 where
  pub read : FindsTree tokens begin 0 found r
  pub is : is_target (plain r.expr.now) ≡ true

abbrev pub AnswersTarget : List Token → ℕ → Found Tree → Option Placed → Type 0
AnswersTarget tokens begin found None = found ≡ None
AnswersTarget tokens begin found (Some r) = FindsTarget tokens begin found r

-- an expression from the token `begin` on, as an entry of a list
pub record FindsEntry (tokens : List Token) (begin : ℕ) (found : Found Tree) (p : Entry.Piece Expr) : Type 0 where
  pub found_is : found ≡ Some (bare (plain p.value), drop p.next (words tokens))
  pub within : p.next ≤ length tokens
  pub taken : p.next ≡ begin + length (spell (plain p.value))
  pub numbered : Numbered (plain p.value) begin

-- such an entry, or none; want of memory is free
abbrev pub AnswersEntry : List Token → ℕ → Found Tree → Result (Entry.Piece Expr) ParseFault → Type 0
AnswersEntry tokens begin found (Ok p) = FindsEntry tokens begin found p
AnswersEntry tokens begin found (Err (Syntax at)) = found ≡ None
AnswersEntry tokens begin found (Err (Unsupported at)) = ⊥
AnswersEntry tokens begin found (Err Memory) = Unit {0}

-- labels from the token `begin` on, with their colon
pub record FindsLabels (tokens : List Token) (begin : ℕ) (found : Found Trees) (r : labelling.LabelList) : Type 0 where
  pub found_is : found ≡ Some (bare_parts (plain_list r.exprs.now), drop r.next (words tokens))
  pub first : Tree
  pub others : Trees
  pub some : plain_list r.exprs.now ≡ More first others
  pub within : r.next ≤ length tokens
  pub taken : r.next ≡ begin + length (spell_more (plain_list r.exprs.now))
  pub numbered : NumberedLabels (plain_list r.exprs.now) begin

abbrev pub AnswersLabels : List Token → ℕ → Found Trees → Option labelling.LabelList → Type 0
AnswersLabels tokens begin found None = found ≡ None
AnswersLabels tokens begin found (Some r) = FindsLabels tokens begin found r

-- labels from the token `begin` on: with a colon behind them they are all labels of an arm, and without one none stand there
pub record FindsList (tokens : List Token) (begin : ℕ) (found : Found Trees) (p : Entry.Piece (Bor (List Expr))) : Type 0 where
  pub within : p.next ≤ length tokens
  pub closed : mark (drop p.next (words tokens)) ≡ mark_colon → FindsLabels tokens begin found (record { exprs = p.value; next = p.next + 1 })
  pub unclosed : (mark (drop p.next (words tokens)) ≡ mark_colon → ⊥) → found ≡ None

-- such labels, or none; want of memory is free
abbrev pub AnswersList : List Token → ℕ → Found Trees → Result (Entry.Piece (Bor (List Expr))) ParseFault → Type 0
AnswersList tokens begin found (Ok p) = FindsList tokens begin found p
AnswersList tokens begin found (Err (Syntax at)) = found ≡ None
AnswersList tokens begin found (Err (Unsupported at)) = ⊥
AnswersList tokens begin found (Err Memory) = Unit {0}

-- a name, `=` and an expression from the token `begin` on, and the mark behind it
pub record FindsSetting (tokens : List Token) (begin : ℕ) (found : Found NamedValue) (r : NamePiece) : Type 0 where
  pub found_is : found ≡ Some (record { text = r.name.name.now; value = bare (plain r.value.expr.now) }, drop r.value.next (words tokens))
  pub within : r.value.next ≤ length tokens
  pub taken : r.value.next ≡ begin + 2 + length (spell (plain r.value.expr.now)) + 1
  pub named : r.name.token ≡ begin
  pub numbered : Numbered (plain r.value.expr.now) (begin + 2)

abbrev pub AnswersSetting : List Token → ℕ → Found NamedValue → Option NamePiece → Type 0
AnswersSetting tokens begin found None = found ≡ None
AnswersSetting tokens begin found (Some r) = FindsSetting tokens begin found r

-- the head of a loop, whose bracket opens at the token `begin`
pub record FindsHead (tokens : List Token) (begin : ℕ) (found : Found LoopHead) (r : HeadPiece) : Type 0 where
  pub found_is : found ≡ Some (bare_loop (plain_loop r.head), drop r.next (words tokens))
  pub within : r.next ≤ length tokens
  pub taken : r.next ≡ begin + length (spell_loop (plain_loop r.head))
  pub numbered : NumberedLoop (plain_loop r.head) begin

abbrev pub AnswersHead : List Token → ℕ → Found LoopHead → Option HeadPiece → Type 0
AnswersHead tokens begin found None = found ≡ None
AnswersHead tokens begin found (Some r) = FindsHead tokens begin found r

-- this statement, and the token after it
pub record IsPiece (s : Statement) (next : ℕ) (r : Piece) : Type 0 where
  pub tree : plain_statement r.stmt ≡ s
  pub next_is : r.next ≡ next

-- this arm, and the token after it
pub record IsArmPiece (a : Arm) (next : ℕ) (r : ArmPiece) : Type 0 where
  pub tree : plain_arm r.arm ≡ a
  pub next_is : r.next ≡ next

-- a statement from the token `begin` on
pub record FindsStatement (tokens : List Token) (begin : ℕ) (found : Found Statement) (r : Piece) : Type 0 where
  pub found_is : found ≡ Some (bare_statement (plain_statement r.stmt), drop r.next (words tokens))
  pub within : r.next ≤ length tokens
  pub taken : r.next ≡ begin + length (spell_statement (plain_statement r.stmt))
  pub numbered : NumberedStatement (plain_statement r.stmt) begin

abbrev pub AnswersStatement : List Token → ℕ → Found Statement → Option Piece → Type 0
AnswersStatement tokens begin found None = found ≡ None
AnswersStatement tokens begin found (Some r) = FindsStatement tokens begin found r

pub record FindsArm (tokens : List Token) (begin : ℕ) (found : Found Arm) (r : ArmPiece) : Type 0 where
  pub found_is : found ≡ Some (bare_arm (plain_arm r.arm), drop r.next (words tokens))
  pub within : r.next ≤ length tokens
  pub taken : r.next ≡ begin + length (spell_arm (plain_arm r.arm))
  pub numbered : NumberedArm (plain_arm r.arm) begin

abbrev pub AnswersArm : List Token → ℕ → Found Arm → Option ArmPiece → Type 0
AnswersArm tokens begin found None = found ≡ None
AnswersArm tokens begin found (Some r) = FindsArm tokens begin found r

-- the name of a block, where a colon stands at the token `begin`
pub record FindsLabel (tokens : List Token) (begin : ℕ) (found : Found (Option Identifier)) (r : LabelPiece) : Type 0 where
  pub found_is : found ≡ Some (bare_label (plain_label r.label), drop r.next (words tokens))
  pub within : r.next ≤ length tokens
  pub taken : r.next ≡ begin + length (spell_label (plain_label r.label))
  pub numbered : NumberedLabel (plain_label r.label) begin

abbrev pub AnswersLabel : List Token → ℕ → Found (Option Identifier) → Option LabelPiece → Type 0
AnswersLabel tokens begin found None = found ≡ None
AnswersLabel tokens begin found (Some r) = FindsLabel tokens begin found r

-- all statements up to `end`, and the token after it
pub record FindsBody (tokens : List Token) (begin : ℕ) (found : Found Statements) (items : List Stmt) (next : ℕ) : Type 0 where
  pub found_is : found ≡ Some (bare_statements (plain_statements items), drop next (words tokens))
  pub within : next ≤ length tokens
  pub taken : next ≡ begin + length (spell_statements (plain_statements items)) + 1
  pub numbered : NumberedStatements (plain_statements items) begin

abbrev pub AnswersBody : List Token → ℕ → Found Statements → List Stmt → Option ℕ → Type 0
AnswersBody tokens begin found items None = found ≡ None
AnswersBody tokens begin found items (Some next) = FindsBody tokens begin found items next

pub record FindsArms (tokens : List Token) (begin : ℕ) (found : Found Arms) (items : List Branch) (next : ℕ) : Type 0 where
  pub found_is : found ≡ Some (bare_arms (plain_arms items), drop next (words tokens))
  pub within : next ≤ length tokens
  pub taken : next ≡ begin + length (spell_arms (plain_arms items)) + 1
  pub numbered : NumberedArms (plain_arms items) begin

abbrev pub AnswersArms : List Token → ℕ → Found Arms → List Branch → Option ℕ → Type 0
AnswersArms tokens begin found items None = found ≡ None
AnswersArms tokens begin found items (Some next) = FindsArms tokens begin found items next
