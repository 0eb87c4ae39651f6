-- which forms of the arena tree are concatenations
use Rattle.std.proofs.Common.{◌≡◌, ap, refl, ℕ, Bool, true, false, List}
use denote.Ref.{Bor}
use Rattle.rr_syntax.specs.declared.tree.Expr.{Expr, the_lemmas}
use Rattle.rr_syntax.specs.declared.tree.Expr.TheVariants as expr
use Rattle.rr_syntax.specs.declared.token.Number.{Number}
use Rattle.rr_syntax.specs.declared.token.Mark.{Mark}
use Rattle.rr_syntax.specs.View.{plain}
use Rattle.rr_syntax.proofs.Rows.{plain_concat, plain_repeat}
use Rattle.rr_wiring.specs.Parts.{is_joined}

pub joined-Concat : (ts : Bor (List Expr)) → is_joined (plain (expr.Concat ts)) ≡ true
unfolding is_joined
joined-Concat ts = ap (λ t. is_joined t) (plain_concat ts)

pub single-Name : (token : ℕ) (name : Bor (List ℕ)) → is_joined (plain (expr.Name token name)) ≡ false
unfolding plain is_joined
single-Name token name = refl

pub single-Literal : (token : ℕ) (n : Number) → is_joined (plain (expr.Literal token n)) ≡ false
unfolding plain is_joined
single-Literal token n = refl

pub single-Bit : (token : ℕ) (name : Bor (List ℕ)) (i : Bor Expr) → is_joined (plain (expr.Bit token name i)) ≡ false
unfolding plain is_joined
single-Bit token name i = refl

pub single-Part : (token : ℕ) (name : Bor (List ℕ)) (l r : Bor Expr) → is_joined (plain (expr.Part token name l r)) ≡ false
unfolding plain is_joined
single-Part token name l r = refl

pub single-Indexed : (token : ℕ) (name : Bor (List ℕ)) (f n : Bor Expr) (up : Bool) → is_joined (plain (expr.Indexed token name f n up)) ≡ false
unfolding plain is_joined
single-Indexed token name f n up = refl

pub single-Unary : (op : Mark) (t : Bor Expr) → is_joined (plain (expr.Unary op t)) ≡ false
unfolding plain is_joined
single-Unary op t = refl

pub single-Binary : (op : Mark) (l r : Bor Expr) → is_joined (plain (expr.Binary op l r)) ≡ false
unfolding plain is_joined
single-Binary op l r = refl

pub single-Cond : (a b c : Bor Expr) → is_joined (plain (expr.Cond a b c)) ≡ false
unfolding plain is_joined
single-Cond a b c = refl

pub single-Repeat : (n : Bor Expr) (ts : Bor (List Expr)) → is_joined (plain (expr.Repeat n ts)) ≡ false
unfolding plain is_joined
single-Repeat n ts = ap (λ t. is_joined t) (plain_repeat n ts)

pub single-Cast : (to : Bool) (t : Bor Expr) → is_joined (plain (expr.Cast to t)) ≡ false
unfolding plain is_joined
single-Cast to t = refl

pub single-Paren : (t : Bor Expr) → is_joined (plain (expr.Paren t)) ≡ false
unfolding plain is_joined
single-Paren t = refl

pub ruleset nodes = (the_lemmas, joined-Concat, single-Name, single-Literal, single-Bit, single-Part, single-Indexed, single-Unary, single-Binary, single-Cond, single-Repeat, single-Cast, single-Paren)
