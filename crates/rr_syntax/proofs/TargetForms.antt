-- Which trees of the arena may be assigned.
use Rattle.std.proofs.Common.{◌≡◌, ℕ, zero, suc, ◌+◌, ◌<◌, List, [], ◌∷◌, length, take, get_or, refl, ap, ◌∙◌, sym, arith, Bool, true, false}
use Rattle.std.specs.Prelude.{◌&&◌}
use Rattle.rr_syntax.specs.declared.token.Mark.{Mark}
use Rattle.rr_syntax.specs.declared.token.Number.{Number}
use Rattle.rr_syntax.specs.declared.tree.Expr.{Expr, the_lemmas}
use Rattle.rr_syntax.specs.declared.tree.Expr.TheVariants as expr
use Rattle.rr_syntax.specs.Expressions.{is_target, are_targets}
use Rattle.rr_syntax.specs.View.{plain, plain_list}
use Rattle.rr_syntax.proofs.Rows.{plain_concat}
use denote.Ref.{Bor}

pub target-Name : (n : ℕ) (s : Bor (List ℕ)) → is_target (plain (expr.Name n s)) ≡ true
unfolding is_target plain
target-Name n s = refl

pub target-Literal : (n : ℕ) (d : Number) → is_target (plain (expr.Literal n d)) ≡ false
unfolding is_target plain
target-Literal n d = refl

pub target-Bit : (n : ℕ) (s : Bor (List ℕ)) (i : Bor Expr) → is_target (plain (expr.Bit n s i)) ≡ true
unfolding is_target plain
target-Bit n s i = refl

pub target-Part : (n : ℕ) (s : Bor (List ℕ)) (l r : Bor Expr) → is_target (plain (expr.Part n s l r)) ≡ true
unfolding is_target plain
target-Part n s l r = refl

pub target-Indexed : (n : ℕ) (s : Bor (List ℕ)) (f w : Bor Expr) (up : Bool) → is_target (plain (expr.Indexed n s f w up)) ≡ true
unfolding is_target plain
target-Indexed n s f w up = refl

pub target-Unary : (op : Mark) (e : Bor Expr) → is_target (plain (expr.Unary op e)) ≡ false
unfolding is_target plain
target-Unary op e = refl

pub target-Binary : (op : Mark) (l r : Bor Expr) → is_target (plain (expr.Binary op l r)) ≡ false
unfolding is_target plain
target-Binary op l r = refl

pub target-Cond : (a b c : Bor Expr) → is_target (plain (expr.Cond a b c)) ≡ false
unfolding is_target plain
target-Cond a b c = refl

pub target-Concat : (parts : Bor (List Expr)) → is_target (plain (expr.Concat parts)) ≡ are_targets (plain_list parts.now)
unfolding is_target
target-Concat parts = ap is_target (plain_concat parts)

pub target-Repeat : (count : Bor Expr) (parts : Bor (List Expr)) → is_target (plain (expr.Repeat count parts)) ≡ false
unfolding is_target plain
target-Repeat count parts = refl

pub target-Cast : (signed : Bool) (e : Bor Expr) → is_target (plain (expr.Cast signed e)) ≡ false
unfolding is_target plain
target-Cast signed e = refl

pub target-Paren : (e : Bor Expr) → is_target (plain (expr.Paren e)) ≡ false
unfolding is_target plain
target-Paren e = refl

pub ruleset target_forms = (the_lemmas, target-Name, target-Literal, target-Bit, target-Part, target-Indexed, target-Unary, target-Binary, target-Cond, target-Concat, target-Repeat, target-Cast, target-Paren)

pub targets_start : (es : List Expr) → are_targets (plain_list (take 0 es)) ≡ true
unfolding is_target plain_list
targets_start [] = refl
targets_start (e ∷ es) = refl

both : (a b : Bool) → a ≡ true → b ≡ true → (a && b) ≡ true
both a b h k = rw (h, k) refl

not_first : (a b : Bool) → a ≡ false → (a && b) ≡ false
not_first a b h = rw h refl

not_second : (a b : Bool) → b ≡ false → (a && b) ≡ false
not_second true b h = h
not_second false b h = refl

first_of : (a b : Bool) → (a && b) ≡ true → (a ≡ true) × (b ≡ true)
first_of true b h = (refl, h)
first_of false b h = absurd cc

pub targets_next : (es : List Expr) (i : ℕ) (e : Expr) → i < length es → e ≡ get_or es i e → are_targets (plain_list (take i es)) ≡ true → is_target (plain e) ≡ true → are_targets (plain_list (take (i + 1) es)) ≡ true
unfolding is_target plain_list
targets_next [] i e h g a b = absurd (omega arith)
targets_next (x ∷ es) zero e h g a b = both (is_target (plain x)) (are_targets (plain_list (take 0 es))) (ap (λ (y : Expr). is_target (plain y)) (sym g) ∙ b) (targets_start es)
targets_next (x ∷ es) (suc i) e h g a b =
    let n : suc i + 1 ≡ suc (i + 1) = omega arith in
    let k = first_of (is_target (plain x)) (are_targets (plain_list (take i es))) a in
    rw n (both (is_target (plain x)) (are_targets (plain_list (take (i + 1) es))) k.0 (targets_next es i e (omega arith) g k.1 b))

pub targets_not : (es : List Expr) (i : ℕ) (e : Expr) → i < length es → e ≡ get_or es i e → is_target (plain e) ≡ false → are_targets (plain_list es) ≡ false
unfolding is_target plain_list
targets_not [] i e h g b = absurd (omega arith)
targets_not (x ∷ es) zero e h g b = not_first (is_target (plain x)) (are_targets (plain_list es)) (ap (λ (y : Expr). is_target (plain y)) (sym g) ∙ b)
targets_not (x ∷ es) (suc i) e h g b = not_second (is_target (plain x)) (are_targets (plain_list es)) (targets_not es i e (omega arith) g b)
