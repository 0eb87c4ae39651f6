-- Reading an expression from words, by the levels of the operators (IEEE 1364-2005 section 5.1.2): a function that the reader
-- computes. No public contract cites it. Its trees are bare: each token number is 0.
use Rattle.std.specs.Prelude.{ℕ, zero, suc, List, [], ◌∷◌, length, codes, Bool, true, false, if◌then◌else◌, ◌==◌, ◌&&◌, ◌||◌, nat_le, nat_lt, Option, Some, None}
use Rattle.std.specs.Str.{bytes_eq}
use Rattle.rr_syntax.specs.Words.{Word, Named, System, Digits, Marked, Reserved, mark_open_parenthesis, mark_close_parenthesis, mark_open_bracket, mark_close_bracket, mark_open_brace, mark_close_brace, mark_comma, mark_colon, mark_question, mark_part_up, mark_part_down}
use Rattle.rr_syntax.specs.Tree.{Tree, Trees, Name, Literal, Bit, Unary, Binary, Cond, Concat, Repeat, Cast, Paren, End, More}
use Rattle.rr_parse_expr.specs.Made.{select_of}
use Rattle.rr_syntax.specs.Expressions.{level, depth, infix_level, is_prefix, unary_level}

-- what was read, and the words that are left
abbrev pub Found : Type 0 → Type 0
Found A = Option (A × List Word)

-- reads the longest expression of at least this level, up to some depth
abbrev pub Reader : Type 0
Reader = ℕ → List Word → Found Tree

unfoldable pub mapped : {A B : Type 0} → (A → B) → Found A → Found B
mapped f None = None
mapped f (Some p) = Some (f p.0, p.1)

unfoldable pub chain : {A B : Type 0} → Found A → (A → List Word → Found B) → Found B
chain None k = None
chain (Some p) k = k p.0 p.1

-- goes on with what was read, or else with this
unfoldable pub or_keep : Found Tree → Found Tree → (Tree → List Word → Found Tree) → Found Tree
or_keep None old k = old
or_keep (Some p) old k = k p.0 p.1

-- a place past the list of marks
abbrev pub no_mark : ℕ
no_mark = 255

abbrev pub mark_of : Word → ℕ
mark_of (Marked m) = m
mark_of (Named s) = no_mark
mark_of (System s) = no_mark
mark_of (Digits n) = no_mark
mark_of (Reserved k) = no_mark

-- the mark at the front, if one is there
unfoldable pub mark : List Word → ℕ
mark [] = no_mark
mark (w ∷ ws) = mark_of w

unfoldable pub rest : List Word → List Word
rest [] = []
rest (w ∷ ws) = ws

unfoldable pub expect : {A : Type 0} → ℕ → (List Word → Found A) → List Word → Found A
expect m k ws = if mark ws == m then k (rest ws) else None

-- an expression and this mark after it
unfoldable pub closed : Reader → ℕ → List Word → Found Tree
closed sub m ws = chain (sub 1 ws) (λ t left. expect m (λ after. Some (t, after)) left)

-- the marks between the two expressions of a select
unfoldable pub is_between : ℕ → Bool
is_between m = (m == mark_colon) || (m == mark_part_up) || (m == mark_part_down)

-- after the first expression of a select, and the mark behind it
unfoldable pub after_index : Reader → List ℕ → Tree → ℕ → List Word → Found Tree
after_index sub s t m ws =
    if m == mark_close_bracket then Some (Bit 0 s t, ws)
    else (if is_between m then mapped (select_of 0 s m t) (closed sub mark_close_bracket ws) else None)

-- a select of a name
unfoldable pub select : Reader → List ℕ → List Word → Found Tree
select sub s ws = expect mark_open_bracket (λ us. chain (sub 1 us) (λ t left. after_index sub s t (mark left) (rest left))) ws

-- a name with the select behind it, if one is there
unfoldable pub named : Reader → List ℕ → List Word → Found Tree
named sub s ws = or_keep (select sub s ws) (Some (Name 0 s, ws)) (λ t left. Some (t, left))

-- whether a system name casts to signed or to unsigned
unfoldable pub cast_sign : List ℕ → Option Bool
cast_sign s = if bytes_eq s (codes "signed") then Some true else (if bytes_eq s (codes "unsigned") then Some false else None)

unfoldable pub cast_by : Reader → Option Bool → List Word → Found Tree
cast_by sub None ws = None
cast_by sub (Some signed) ws = expect mark_open_parenthesis (λ us. mapped (Cast signed) (closed sub mark_close_parenthesis us)) ws

-- after a system name
unfoldable pub system : Reader → List ℕ → List Word → Found Tree
system sub s ws = cast_by sub (cast_sign s) ws

unfoldable pub snoc : Trees → Tree → Trees
snoc End t = More t End
snoc (More u us) t = More u (snoc us t)

-- the parts after those that are there, up to the closing brace
unfoldable pub parts : Reader → ℕ → Trees → List Word → Found Trees
parts sub zero have ws = None
parts sub (suc fuel) have ws =
    if mark ws == mark_close_brace then Some (have, rest ws)
    else (if mark ws == mark_comma then chain (sub 1 (rest ws)) (λ t left. parts sub fuel (snoc have t) left) else None)

-- the parts after this one
unfoldable pub parts_from : Reader → Tree → List Word → Found Trees
parts_from sub t ws = parts sub (suc (length ws)) (More t End) ws

-- after the count of a replication and its inner brace
unfoldable pub repeated : Reader → Tree → List Word → Found Tree
repeated sub t ws =
    chain (sub 1 ws) (λ u left. chain (parts_from sub u left) (λ us after. expect mark_close_brace (λ more. Some (Repeat t us, more)) after))

unfoldable pub after_first : Reader → Tree → List Word → Found Tree
after_first sub t ws = if mark ws == mark_open_brace then repeated sub t (rest ws) else mapped Concat (parts_from sub t ws)

unfoldable pub braces : Reader → List Word → Found Tree
braces sub ws = chain (sub 1 ws) (λ t left. after_first sub t left)

unfoldable pub after_mark : Reader → ℕ → List Word → Found Tree
after_mark sub m ws =
    if is_prefix m then mapped (Unary m) (sub unary_level ws)
    else (if m == mark_open_parenthesis then mapped Paren (closed sub mark_close_parenthesis ws) else (if m == mark_open_brace then braces sub ws else None))

unfoldable pub operand : Reader → List Word → Found Tree
operand sub [] = None
operand sub (Named s ∷ ws) = named sub s ws
operand sub (System s ∷ ws) = system sub s ws
operand sub (Digits n ∷ ws) = Some (Literal 0 n, ws)
operand sub (Reserved k ∷ ws) = None
operand sub (Marked m ∷ ws) = after_mark sub m ws

-- the least level of the operand on the left
unfoldable pub left_level : ℕ → ℕ
left_level m = if m == mark_question then 2 else infix_level m

-- whether the operator may go on after this operand
unfoldable pub goes_on : ℕ → ℕ → Tree → ℕ → Bool
goes_on limit low left m = nat_le low (infix_level m) && nat_le (left_level m) (level left) && nat_lt (depth left) limit

-- an operator and what follows it
unfoldable pub turn : Reader → Tree → ℕ → List Word → Found Tree
turn sub left m ws =
    if m == mark_question then chain (closed sub mark_colon ws) (λ t more. mapped (Cond left t) (sub 1 more))
    else mapped (Binary m left) (sub (suc (infix_level m)) ws)

-- goes on after an operand, at most fuel times
unfoldable pub climb : Reader → ℕ → ℕ → ℕ → Tree → List Word → Found Tree
climb sub limit low zero left ws = Some (left, ws)
climb sub limit low (suc fuel) left ws =
    if goes_on limit low left (mark ws) then or_keep (turn sub left (mark ws) (rest ws)) (Some (left, ws)) (climb sub limit low fuel)
    else Some (left, ws)

unfoldable pub reads_by : Reader → ℕ → Reader
reads_by sub limit low ws = chain (operand sub ws) (λ t left. climb sub limit low limit t left)

abbrev pub nothing : Reader
nothing low ws = None

-- up to this depth
unfoldable pub reads : ℕ → Reader
reads zero = reads_by nothing zero
reads (suc limit) = reads_by (reads limit) (suc limit)

-- what the operands of a node are read by
unfoldable pub below : ℕ → Reader
below zero = nothing
below (suc limit) = reads limit
