-- Bare names at nodes of the arena, one equation for each form.
use Rattle.std.proofs.Common.{◌≡◌, ap, ℕ, Bool, List, Option, None, refl}
use Rattle.rr_syntax.specs.declared.token.Mark.{Mark}
use Rattle.rr_syntax.specs.declared.token.Number.{Number}
use Rattle.rr_syntax.specs.declared.tree.Expr.{Expr, the_lemmas as expr_lemmas}
use Rattle.rr_syntax.specs.declared.tree.Expr.TheVariants as expr
use Rattle.rr_syntax.specs.View.{plain}
use Rattle.rr_syntax.proofs.Rows.{plain_concat, plain_repeat}
use Rattle.rr_flat.specs.Plain.{Flat, Written}
use Rattle.rr_clock.specs.Clock.{bare_scalar}
use Rattle.rr_text_names.specs.Names.{scalar_named}
use denote.Ref.{Bor}

pub bare-Name : (flat : Flat) (scope : ℕ) (token : ℕ) (name : Bor (List ℕ)) → bare_scalar flat (Written (plain (expr.Name token name)) scope) ≡ scalar_named flat scope name.now
unfolding plain
bare-Name flat scope token name = refl

pub bare-Literal : (flat : Flat) (scope : ℕ) (token : ℕ) (n : Number) → bare_scalar flat (Written (plain (expr.Literal token n)) scope) ≡ None
unfolding plain
bare-Literal flat scope token n = refl

pub bare-Bit : (flat : Flat) (scope : ℕ) (token : ℕ) (name : Bor (List ℕ)) (i : Bor Expr) → bare_scalar flat (Written (plain (expr.Bit token name i)) scope) ≡ None
unfolding plain
bare-Bit flat scope token name i = refl

pub bare-Part : (flat : Flat) (scope : ℕ) (token : ℕ) (name : Bor (List ℕ)) (l r : Bor Expr) → bare_scalar flat (Written (plain (expr.Part token name l r)) scope) ≡ None
unfolding plain
bare-Part flat scope token name l r = refl

pub bare-Indexed : (flat : Flat) (scope : ℕ) (token : ℕ) (name : Bor (List ℕ)) (f n : Bor Expr) (up : Bool) → bare_scalar flat (Written (plain (expr.Indexed token name f n up)) scope) ≡ None
unfolding plain
bare-Indexed flat scope token name f n up = refl

pub bare-Unary : (flat : Flat) (scope : ℕ) (op : Mark) (t : Bor Expr) → bare_scalar flat (Written (plain (expr.Unary op t)) scope) ≡ None
unfolding plain
bare-Unary flat scope op t = refl

pub bare-Binary : (flat : Flat) (scope : ℕ) (op : Mark) (l r : Bor Expr) → bare_scalar flat (Written (plain (expr.Binary op l r)) scope) ≡ None
unfolding plain
bare-Binary flat scope op l r = refl

pub bare-Cond : (flat : Flat) (scope : ℕ) (a b c : Bor Expr) → bare_scalar flat (Written (plain (expr.Cond a b c)) scope) ≡ None
unfolding plain
bare-Cond flat scope a b c = refl

pub bare-Concat : (flat : Flat) (scope : ℕ) (ts : Bor (List Expr)) → bare_scalar flat (Written (plain (expr.Concat ts)) scope) ≡ None
bare-Concat flat scope ts = ap (λ t. bare_scalar flat (Written t scope)) (plain_concat ts)

pub bare-Repeat : (flat : Flat) (scope : ℕ) (n : Bor Expr) (ts : Bor (List Expr)) → bare_scalar flat (Written (plain (expr.Repeat n ts)) scope) ≡ None
bare-Repeat flat scope n ts = ap (λ t. bare_scalar flat (Written t scope)) (plain_repeat n ts)

pub bare-Cast : (flat : Flat) (scope : ℕ) (signed : Bool) (t : Bor Expr) → bare_scalar flat (Written (plain (expr.Cast signed t)) scope) ≡ None
unfolding plain
bare-Cast flat scope signed t = refl

pub bare-Paren : (flat : Flat) (scope : ℕ) (t : Bor Expr) → bare_scalar flat (Written (plain (expr.Paren t)) scope) ≡ None
unfolding plain
bare-Paren flat scope t = refl

pub ruleset bare_nodes = (expr_lemmas, bare-Name, bare-Literal, bare-Bit, bare-Part, bare-Indexed, bare-Unary, bare-Binary, bare-Cond, bare-Concat, bare-Repeat, bare-Cast, bare-Paren)
