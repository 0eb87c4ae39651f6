-- Reading a statement from words (IEEE 1364-2005 section 9, annex A.6): a function that the reader computes. No public contract
-- cites it. Its trees are bare: each token number is 0.
use Rattle.std.specs.Prelude.{ℕ, zero, suc, List, [], ◌∷◌, length, Bool, true, false, if◌then◌else◌, ◌==◌, nat_le, Option, Some, None}
use Rattle.rr_syntax.specs.Words.{Word, Named, System, Digits, Marked, Reserved, keyword_begin, keyword_default, keyword_else, keyword_end, keyword_endcase, keyword_for, keyword_if, mark_open_parenthesis, mark_close_parenthesis, mark_comma, mark_colon, mark_semicolon, mark_equals, mark_less_or_equal}
use Rattle.rr_syntax.specs.Tree.{Tree, Trees, End, More, Identifier, LoopHead, Statement, Statements, Arm, Arms, Null, Block, If, IfElse, Case, Assign, For, Done, Then, CaseItem, NoArms, MoreArms}
use Rattle.rr_syntax.specs.Expressions.{is_target, unary_level}
use Rattle.rr_syntax.specs.Statements.{is_case, defaults}
use Rattle.rr_parse_expr.specs.Reading.{Found, Reader, mapped, chain, mark, rest, expect, closed, snoc, reads, nothing}

-- a place past the list of reserved words
abbrev pub no_word : ℕ
no_word = 255

abbrev pub keyword_of : Word → ℕ
keyword_of (Reserved k) = k
keyword_of (Named s) = no_word
keyword_of (System s) = no_word
keyword_of (Digits n) = no_word
keyword_of (Marked m) = no_word

-- the reserved word at the front, if one is there
unfoldable pub keyword : List Word → ℕ
keyword [] = no_word
keyword (w ∷ ws) = keyword_of w

abbrev pub StatementReader : Type 0
StatementReader = List Word → Found Statement

abbrev pub ArmReader : Type 0
ArmReader = List Word → Found Arm

abbrev pub name_of : Word → List Word → Found Identifier
name_of (Named s) ws = Some (record { token = 0; text = s }, ws)
name_of (System s) ws = None
name_of (Digits n) ws = None
name_of (Marked m) ws = None
name_of (Reserved k) ws = None

-- a name
unfoldable pub name : List Word → Found Identifier
name [] = None
name (w ∷ ws) = name_of w ws

abbrev pub labelled : Identifier → Option Identifier
labelled i = Some i

-- the name of a block, where a colon stands
unfoldable pub label : List Word → Found (Option Identifier)
label ws = if mark ws == mark_colon then mapped labelled (name (rest ws)) else Some (None, ws)

unfoldable pub snoc_statement : Statements → Statement → Statements
snoc_statement Done s = Then s Done
snoc_statement (Then t ts) s = Then t (snoc_statement ts s)

unfoldable pub snoc_arm : Arms → Arm → Arms
snoc_arm NoArms a = MoreArms a NoArms
snoc_arm (MoreArms b rest) a = MoreArms b (snoc_arm rest a)

-- the statements after those that are there, up to `end`
unfoldable pub body : StatementReader → ℕ → Statements → List Word → Found Statements
body sub zero have ws = None
body sub (suc fuel) have ws =
    if keyword ws == keyword_end then Some (have, rest ws) else chain (sub ws) (λ s left. body sub fuel (snoc_statement have s) left)

-- after `begin`
unfoldable pub block : StatementReader → List Word → Found Statement
block sub ws = chain (label ws) (λ l left. mapped (Block l) (body sub (suc (length left)) Done left))

-- an expression in brackets
unfoldable pub tested : Reader → List Word → Found Tree
tested sub ws = expect mark_open_parenthesis (closed sub mark_close_parenthesis) ws

-- an `else` belongs to the nearest `if`
unfoldable pub after_then : StatementReader → Tree → Statement → List Word → Found Statement
after_then sub t s ws = if keyword ws == keyword_else then mapped (IfElse t s) (sub (rest ws)) else Some (If t s, ws)

-- after `if`
unfoldable pub conditional : Reader → StatementReader → List Word → Found Statement
conditional e sub ws = chain (tested e ws) (λ t left. chain (sub left) (λ s more. after_then sub t s more))

-- a name and the expression that it is set to
pub record NamedValue : Type 0 where
  pub text : List ℕ
  pub value : Tree

abbrev pub named_value : Identifier → Tree → NamedValue
named_value i t = record { text = i.text; value = t }

-- a name, `=` and an expression, and this mark after it
unfoldable pub setting : Reader → ℕ → List Word → Found NamedValue
setting e m ws = chain (name ws) (λ i left. expect mark_equals (λ after. mapped (named_value i) (closed e m after)) left)

abbrev pub loop_head : NamedValue → Tree → NamedValue → LoopHead
loop_head a t b = record { token = 0; text = a.text; start = a.value; test = t; step_token = 0; step_text = b.text; step = b.value }

-- the test and the step of a loop, up to its closing bracket
unfoldable pub after_start : Reader → NamedValue → List Word → Found LoopHead
after_start e a ws = chain (closed e mark_semicolon ws) (λ t left. mapped (loop_head a t) (setting e mark_close_parenthesis left))

-- the head of a loop (section 9.6)
unfoldable pub head : Reader → List Word → Found LoopHead
head e ws = expect mark_open_parenthesis (λ after. chain (setting e mark_semicolon after) (after_start e)) ws

-- after `for`
unfoldable pub looped : Reader → StatementReader → List Word → Found Statement
looped e sub ws = chain (head e ws) (λ h left. mapped (For h) (sub left))

-- the labels after those that are there, up to the colon
unfoldable pub labels_after : Reader → ℕ → Trees → List Word → Found Trees
labels_after e zero have ws = None
labels_after e (suc fuel) have ws =
    if mark ws == mark_colon then Some (have, rest ws)
    else (if mark ws == mark_comma then chain (e 1 (rest ws)) (λ t left. labels_after e fuel (snoc have t) left) else None)

unfoldable pub labels : Reader → List Word → Found Trees
labels e ws = chain (e 1 ws) (λ t left. labels_after e (suc (length left)) (More t End) left)

-- after `default`
unfoldable pub default_arm : StatementReader → List Word → Found Arm
default_arm sub ws = if mark ws == mark_colon then mapped (CaseItem End true) (sub (rest ws)) else mapped (CaseItem End false) (sub ws)

unfoldable pub labelled_arm : Reader → StatementReader → List Word → Found Arm
labelled_arm e sub ws = chain (labels e ws) (λ ts left. mapped (CaseItem ts true) (sub left))

unfoldable pub arm_by : Reader → StatementReader → ArmReader
arm_by e sub ws = if keyword ws == keyword_default then default_arm sub (rest ws) else labelled_arm e sub ws

-- one arm or more after those that are there, up to `endcase`, with one default at most
unfoldable pub arms : ArmReader → ℕ → Arms → List Word → Found Arms
arms sub zero have ws = None
arms sub (suc fuel) have ws = chain (sub ws) (λ a left.
    if nat_le (defaults (snoc_arm have a)) 1
    then (if keyword left == keyword_endcase then Some (snoc_arm have a, rest left) else arms sub fuel (snoc_arm have a) left)
    else None)

-- after the word of a `case`
unfoldable pub cases : Reader → ArmReader → ℕ → List Word → Found Statement
cases e sub kind ws = chain (tested e ws) (λ t left. mapped (Case kind t) (arms sub (suc (length left)) NoArms left))

-- whether the mark at the front is `=`, where it is `=` or `<=`
unfoldable pub sign : List Word → Option Bool
sign ws = if mark ws == mark_equals then Some true else (if mark ws == mark_less_or_equal then Some false else None)

-- after a target: the mark of the assignment and its value
unfoldable pub assigned : Reader → Tree → List Word → Found Statement
assigned e t ws =
    if mark ws == mark_equals then mapped (Assign t true) (closed e mark_semicolon (rest ws))
    else (if mark ws == mark_less_or_equal then mapped (Assign t false) (closed e mark_semicolon (rest ws)) else None)

abbrev pub only_target : Tree → List Word → Found Tree
only_target t ws = if is_target t then Some (t, ws) else None

-- an operand that may be assigned
unfoldable pub target : Reader → List Word → Found Tree
target e ws = chain (e unary_level ws) only_target

unfoldable pub assignment : Reader → List Word → Found Statement
assignment e ws = chain (target e ws) (assigned e)

-- e reads the expressions below a statement, sub its statements and arm its arms
unfoldable pub statement_by : Reader → StatementReader → ArmReader → StatementReader
statement_by e sub arm ws =
    if mark ws == mark_semicolon then Some (Null, rest ws)
    else (if keyword ws == keyword_begin then block sub (rest ws)
    else (if keyword ws == keyword_if then conditional e sub (rest ws)
    else (if keyword ws == keyword_for then looped e sub (rest ws)
    else (if is_case (keyword ws) then cases e arm (keyword ws) (rest ws) else assignment e ws))))

abbrev pub no_statement : StatementReader
no_statement ws = None

abbrev pub no_arm : ArmReader
no_arm ws = None

unfoldable mutual
  -- up to this depth
  pub statement : ℕ → StatementReader
  statement zero = statement_by nothing no_statement no_arm
  statement (suc k) = statement_by (reads k) (statement k) (arm k)

  pub arm : ℕ → ArmReader
  arm zero = arm_by nothing no_statement
  arm (suc k) = arm_by (reads k) (statement k)

-- what stands below a statement or an arm of this depth
unfoldable pub below_statement : ℕ → StatementReader
below_statement zero = no_statement
below_statement (suc k) = statement k

unfoldable pub below_arm : ℕ → ArmReader
below_arm zero = no_arm
below_arm (suc k) = arm k
