-- What the functions of the reader answer.
use Rattle.std.specs.Prelude.{ℕ, suc, ◌+◌, ◌≡◌, ◌≤◌, ◌<◌, List, length, drop, Option, Some, None, true}
use Rattle.rr_syntax.specs.declared.token.Token.{Token}
use Rattle.rr_syntax.specs.declared.tree.Expr.{Expr}
use Rattle.rr_syntax.specs.declared.token.Mark.{Mark}
use Rattle.rr_syntax.specs.Words.{Word, words}
use Rattle.rr_syntax.specs.Tree.{Tree, Trees, More, bare, bare_parts}
use Rattle.rr_syntax.specs.Expressions.{spell, spell_more, depth, height, Numbered, NumberedMore}
use Rattle.rr_syntax.specs.View.{plain, plain_list}
use Rattle.rr_parse_expr.specs.declared.nodes.Read.{Read}
use Rattle.rr_parse_expr.specs.declared.nodes.End as ending
use Rattle.rr_parse_expr.specs.Reading.{Found, Reader, climb, goes_on, is_between, mark}

-- the tree of a node with every token number 0
abbrev pub form : Expr → Tree
form e = bare (plain e)

abbrev pub forms : List Expr → Trees
forms es = bare_parts (plain_list es)

-- r was read from the token `from` on
pub record ReadAs (tokens : List Token) (from limit : ℕ) (r : Read) : Type 0 where
  pub deep : r.depth ≡ depth (plain r.expr)
  pub low : r.depth ≤ limit
  pub within : r.next ≤ length tokens
  pub taken : r.next ≡ from + length (spell (plain r.expr))
  pub numbered : Numbered (plain r.expr) from

pub record Finds (tokens : List Token) (from limit : ℕ) (found : Found Tree) (r : Read) : Type 0 where
  pub found_is : found ≡ Some (form r.expr, drop r.next (words tokens))
  pub read : ReadAs tokens from limit r

-- the code's answer to what the reading function finds
abbrev pub Answers : List Token → ℕ → ℕ → Found Tree → Option Read → Type 0
Answers tokens from limit found None = found ≡ None
Answers tokens from limit found (Some r) = Finds tokens from limit found r

-- r was read from the token `from` on, and fits below a node
pub record IsBelow (tokens : List Token) (from limit : ℕ) (r : Read) : Type 0 where
  pub deeper : r.depth < limit
  pub deep : r.depth ≡ depth (plain r.expr)
  pub within : r.next ≤ length tokens
  pub taken : r.next ≡ from + length (spell (plain r.expr))
  pub numbered : Numbered (plain r.expr) from

pub record FindsBelow (tokens : List Token) (from limit : ℕ) (found : Found Tree) (r : Read) : Type 0 where
  pub found_is : found ≡ Some (form r.expr, drop r.next (words tokens))
  pub read : IsBelow tokens from limit r

abbrev pub AnswersBelow : List Token → ℕ → ℕ → Found Tree → Option Read → Type 0
AnswersBelow tokens from limit found None = found ≡ None
AnswersBelow tokens from limit found (Some r) = FindsBelow tokens from limit found r

-- r is an expression that fits below a node, with one mark behind it, which is taken too
pub record FindsClosed (tokens : List Token) (from limit : ℕ) (found : Found Tree) (r : Read) : Type 0 where
  pub found_is : found ≡ Some (form r.expr, drop r.next (words tokens))
  pub deeper : r.depth < limit
  pub deep : r.depth ≡ depth (plain r.expr)
  pub within : r.next ≤ length tokens
  pub taken : r.next ≡ from + length (spell (plain r.expr)) + 1
  pub numbered : Numbered (plain r.expr) from

abbrev pub AnswersClosed : List Token → ℕ → ℕ → Found Tree → Option Read → Type 0
AnswersClosed tokens from limit found None = found ≡ None
AnswersClosed tokens from limit found (Some r) = FindsClosed tokens from limit found r

-- r is this tree, and ends before the token `next`
pub record IsNode (t : Tree) (next deepest : ℕ) (r : Read) : Type 0 where
  pub tree : plain r.expr ≡ t
  pub next_is : r.next ≡ next
  pub depth_is : r.depth ≡ deepest

pub record Moves (tokens : List Token) (from : ℕ) (sub : Reader) (limit low : ℕ) (left more : Read) : Type 0 where
  pub goes : (n : ℕ) → climb sub limit low (suc n) (form left.expr) (drop left.next (words tokens)) ≡ climb sub limit low n (form more.expr) (drop more.next (words tokens))
  pub deeper : left.depth < more.depth
  pub read : ReadAs tokens from limit more

-- the code's answer to whether an operator goes on
abbrev pub Steps : List Token → ℕ → Reader → ℕ → ℕ → Read → Option Read → Type 0
Steps tokens from sub limit low left None = (n : ℕ) → climb sub limit low n (form left.expr) (drop left.next (words tokens)) ≡ Some (form left.expr, drop left.next (words tokens))
Steps tokens from sub limit low left (Some more) = Moves tokens from sub limit low left more

-- some parts, of which the first stands behind the mark at the token `from`
pub record PartsRead (tokens : List Token) (from limit : ℕ) (items : List Expr) (next deepest : ℕ) : Type 0 where
  pub first : Tree
  pub others : Trees
  pub some : plain_list items ≡ More first others
  pub deep : deepest ≡ height (plain_list items)
  pub low : deepest ≤ limit
  pub within : next ≤ length tokens
  pub taken : next ≡ from + length (spell_more (plain_list items))
  pub numbered : NumberedMore (plain_list items) from

-- all the parts, with the closing brace before the end
pub record Gathered (tokens : List Token) (from limit : ℕ) (found : Found Trees) (items : List Expr) (end : ending.End) : Type 0 where
  pub found_is : found ≡ Some (forms items, drop end.next (words tokens))
  pub first : Tree
  pub others : Trees
  pub some : plain_list items ≡ More first others
  pub deep : end.depth ≡ height (plain_list items)
  pub low : end.depth ≤ limit
  pub within : end.next ≤ length tokens
  pub taken : end.next ≡ from + 1 + length (spell_more (plain_list items))
  pub numbered : NumberedMore (plain_list items) from

abbrev pub Gathers : List Token → ℕ → ℕ → Found Trees → List Expr → Option ending.End → Type 0
Gathers tokens from limit found items None = found ≡ None
Gathers tokens from limit found items (Some end) = Gathered tokens from limit found items end

-- this mark stands at the front and goes on with what was read
pub record IsOperator (limit low : ℕ) (left : Read) (ws : List Word) (op : Mark) : Type 0 where
  pub stands : mark ws ≡ op.0
  pub goes : goes_on limit low (plain left.expr) op.0 ≡ true

-- this mark stands at the front, between the two expressions of a select
pub record IsBetween (ws : List Word) (between : Mark) : Type 0 where
  pub stands : mark ws ≡ between.0
  pub parts : is_between between.0 ≡ true
