-- the wild places of labels at nodes of the arena
use Rattle.std.proofs.Common.{◌≡◌, ℕ, ◌≤◌, Bool, false, List, None, refl, length}
use Rattle.rr_bits.specs.Words.{word, extend}
use Rattle.rr_bits.specs.Fields.{length_word}
use Rattle.rr_syntax.specs.declared.token.Mark.{Mark}
use Rattle.rr_syntax.specs.declared.token.Number.{Number}
use Rattle.rr_syntax.specs.declared.tree.Expr.{Expr, the_lemmas as expr_lemmas}
use Rattle.rr_syntax.specs.declared.tree.Expr.TheVariants as expr
use Rattle.rr_syntax.specs.Tree.{Tree, Name, Literal, Bit as BitSelect, Part, Indexed, Unary, Binary, Cond, Concat, Repeat, Cast, Paren}
use Rattle.rr_syntax.specs.View.{plain}
use Rattle.rr_syntax.proofs.Rows.{plain_concat, plain_repeat}
use Rattle.rr_expr.specs.Faults.{fault}
use Rattle.rr_expr.specs.Scopes.{Names}
use Rattle.rr_expr.specs.Values.{form}
use Rattle.rr_named_bits.proofs.Nodes.{shaped_small, shaped_positive, shaped-Paren}
use Rattle.rr_cycle.specs.Exec.{wild, wild_digits}
use Rattle.rr_exec.proofs.Widths.{length_extend}
use denote.Ref.{Bor}

pub literal_low : (s : Names) (token : ℕ) (n : Number) → fault s (plain (expr.Literal token n)) false ≡ None → 1 ≤ n.width
unfolding plain form
literal_low s token n h = shaped_positive s (Literal token n) h

pub literal_high : (s : Names) (token : ℕ) (n : Number) → fault s (plain (expr.Literal token n)) false ≡ None → n.width ≤ 128
unfolding plain form
literal_high s token n h = shaped_small s (Literal token n) h

pub wild-Paren : (kind w : ℕ) (t : Bor Expr) → wild kind (plain (expr.Paren t)) w ≡ wild kind (plain t.now) w
unfolding plain wild
wild-Paren kind w t = refl

pub wild-Literal : (kind w token : ℕ) (n : Number) → wild kind (plain (expr.Literal token n)) w ≡ extend w false (wild_digits kind n)
unfolding plain wild
wild-Literal kind w token n = refl

pub wild-Name : (kind w token : ℕ) (name : Bor (List ℕ)) → wild kind (plain (expr.Name token name)) w ≡ word w 0
unfolding plain wild
wild-Name kind w token name = refl

pub wild-Bit : (kind w token : ℕ) (name : Bor (List ℕ)) (i : Bor Expr) → wild kind (plain (expr.Bit token name i)) w ≡ word w 0
unfolding plain wild
wild-Bit kind w token name i = refl

pub wild-Part : (kind w token : ℕ) (name : Bor (List ℕ)) (l r : Bor Expr) → wild kind (plain (expr.Part token name l r)) w ≡ word w 0
unfolding plain wild
wild-Part kind w token name l r = refl

pub wild-Indexed : (kind w token : ℕ) (name : Bor (List ℕ)) (f n : Bor Expr) (up : Bool) → wild kind (plain (expr.Indexed token name f n up)) w ≡ word w 0
unfolding plain wild
wild-Indexed kind w token name f n up = refl

pub wild-Unary : (kind w : ℕ) (op : Mark) (t : Bor Expr) → wild kind (plain (expr.Unary op t)) w ≡ word w 0
unfolding plain wild
wild-Unary kind w op t = refl

pub wild-Binary : (kind w : ℕ) (op : Mark) (l r : Bor Expr) → wild kind (plain (expr.Binary op l r)) w ≡ word w 0
unfolding plain wild
wild-Binary kind w op l r = refl

pub wild-Cond : (kind w : ℕ) (a b c : Bor Expr) → wild kind (plain (expr.Cond a b c)) w ≡ word w 0
unfolding plain wild
wild-Cond kind w a b c = refl

pub wild-Concat : (kind w : ℕ) (ts : Bor (List Expr)) → wild kind (plain (expr.Concat ts)) w ≡ word w 0
unfolding wild
wild-Concat kind w ts = rw (plain_concat ts) refl

pub wild-Repeat : (kind w : ℕ) (n : Bor Expr) (ts : Bor (List Expr)) → wild kind (plain (expr.Repeat n ts)) w ≡ word w 0
unfolding wild
wild-Repeat kind w n ts = rw (plain_repeat n ts) refl

pub wild-Cast : (kind w : ℕ) (signed : Bool) (t : Bor Expr) → wild kind (plain (expr.Cast signed t)) w ≡ word w 0
unfolding plain wild
wild-Cast kind w signed t = refl

pub ruleset wild_nodes =
    (expr_lemmas, literal_low, literal_high, shaped-Paren, wild-Paren, wild-Literal, wild-Name, wild-Bit, wild-Part, wild-Indexed, wild-Unary, wild-Binary, wild-Cond, wild-Concat, wild-Repeat, wild-Cast)

-- they are as many as the context has
pub length_wild : (kind : ℕ) (t : Tree) (w : ℕ) → length (wild kind t w) ≡ w
unfolding wild
length_wild kind (Name token name) w = length_word w 0
length_wild kind (Literal token n) w = length_extend w false (wild_digits kind n)
length_wild kind (BitSelect token name i) w = length_word w 0
length_wild kind (Part token name l r) w = length_word w 0
length_wild kind (Indexed token name f n up) w = length_word w 0
length_wild kind (Unary op t) w = length_word w 0
length_wild kind (Binary op l r) w = length_word w 0
length_wild kind (Cond a b c) w = length_word w 0
length_wild kind (Concat ts) w = length_word w 0
length_wild kind (Repeat n ts) w = length_word w 0
length_wild kind (Cast signed t) w = length_word w 0
length_wild kind (Paren t) w = length_wild kind t w
