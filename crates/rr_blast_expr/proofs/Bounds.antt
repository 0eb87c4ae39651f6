-- an expression that fits has at most 128 bits
use Rattle.std.proofs.Common.{◌≡◌, ℕ, ◌*◌, ◌≤◌, suc, zero, List, true, false, None, sym, ap, ◌∙◌, arith, ◌&&◌, nat_lt, get_or}
use Rattle.std.proofs.lemmas.Bool.{and_parts, ltb-true}
use denote.Ref.{Bor}
use Rattle.rr_syntax.specs.declared.tree.Expr.{Expr}
use Rattle.rr_syntax.specs.declared.tree.Expr.TheVariants as expr
use Rattle.rr_syntax.specs.View.{plain, plain_list}
use Rattle.rr_syntax.specs.Tree.{Tree, Name, Literal, Bit, Part, Indexed, Unary, Binary, Cond, Concat, Repeat, Cast, Paren}
use Rattle.rr_expr.specs.declared.types.Entity.{Entity}
use Rattle.rr_expr.specs.declared.types.Entity.TheVariants.{Constant, Signal, Memory, Instance}
use Rattle.rr_expr.specs.declared.types.Shape.{Shape}
use Rattle.rr_expr.specs.declared.operators.Infix.{Infix}
use Rattle.rr_expr.specs.declared.operators.Infix.TheVariants.{Arithmetic, Divide, Remainder, Power, Shifted, Compared, Both, Either}
use Rattle.rr_expr.specs.declared.operators.Prefix.{Prefix}
use Rattle.rr_expr.specs.declared.operators.Prefix.TheVariants.{Plus, Minus, Invert, Reduced}
use Rattle.rr_expr.specs.Operators.{infixes, prefixes, prefix_shape, infix_shape}
use Rattle.rr_expr.specs.Memories.{index_shape}
use Rattle.rr_expr.specs.Scopes.{Names, meant, entity_shape}
use Rattle.rr_expr.specs.Values.{form, widths}
use Rattle.rr_expr.specs.Faults.{fits, fit, fault, constant_count, constant_span, is_width}
use Rattle.rr_expr.proofs.Sound.{fits_without_fault}
use Rattle.rr_expr.proofs.Equations.{fits-Concat, fits-Repeat}

prefix_narrow : (op : Prefix) (a : Shape) → a.width ≤ 128 → (prefix_shape op a).width ≤ 128
prefix_narrow Plus a h = h
prefix_narrow Minus a h = h
prefix_narrow Invert a h = h
prefix_narrow (Reduced op) a h = omega arith

infix_narrow : (op : Infix) (a b : Shape) → a.width ≤ 128 → b.width ≤ 128 → (infix_shape op a b).width ≤ 128
infix_narrow (Arithmetic op) a b h k = omega (arith, h, k)
infix_narrow Divide a b h k = omega (arith, h, k)
infix_narrow Remainder a b h k = omega (arith, h, k)
infix_narrow Power a b h k = h
infix_narrow (Shifted op) a b h k = h
infix_narrow (Compared op) a b h k = omega arith
infix_narrow Both a b h k = omega arith
infix_narrow Either a b h k = omega arith

pub narrow : (w : ℕ) → is_width w ≡ true → w ≤ 128
narrow w h = let l = ltb-true w 129 (and_parts (nat_lt 0 w) (nat_lt w 129) h).1 in omega (arith, l)

index_narrow : (e : Entity) → (entity_shape e).width ≤ 128 → (index_shape e).width ≤ 128
index_narrow (Constant bits signed) h = omega arith
index_narrow (Signal id range signed) h = omega arith
index_narrow (Memory first low words range signed) h = h
index_narrow Instance h = omega arith

pub width_narrow : (s : Names) (t : Tree) → fits s t ≡ true → (form s t).width ≤ 128
unfolding fits form
width_narrow s (Name token name) h = narrow (entity_shape (meant s name)).width h
width_narrow s (Literal token n) h = narrow n.width h
width_narrow s (Bit token name i) h = index_narrow (meant s name) (narrow (entity_shape (meant s name)).width (and_parts (is_width (entity_shape (meant s name)).width) (fits s i) h).0)
width_narrow s (Part token name l r) h =
    let k = and_parts (is_width (entity_shape (meant s name)).width) (fits s l && (fits s r && is_width (constant_span s l r))) h in
    narrow (constant_span s l r) (and_parts (fits s r) (is_width (constant_span s l r)) (and_parts (fits s l) (fits s r && is_width (constant_span s l r)) k.1).1).1
width_narrow s (Indexed token name f n up) h =
    let k = and_parts (is_width (entity_shape (meant s name)).width) (fits s f && (fits s n && is_width (constant_count s n))) h in
    narrow (constant_count s n) (and_parts (fits s n) (is_width (constant_count s n)) (and_parts (fits s f) (fits s n && is_width (constant_count s n)) k.1).1).1
width_narrow s (Unary op t) h = prefix_narrow (get_or prefixes op Plus) (form s t) (width_narrow s t h)
width_narrow s (Binary op l r) h =
    let k = and_parts (fits s l) (fits s r) h in
    infix_narrow (get_or infixes op Either) (form s l) (form s r) (width_narrow s l k.0) (width_narrow s r k.1)
width_narrow s (Cond a b c) h =
    let k = and_parts (fits s b) (fits s c) (and_parts (fits s a) (fits s b && fits s c) h).1 in
    let x = width_narrow s b k.0 in
    let y = width_narrow s c k.1 in
    omega (arith, x, y)
width_narrow s (Concat ts) h = narrow (widths s ts) (and_parts (fit s ts) (is_width (widths s ts)) h).1
width_narrow s (Repeat n ts) h =
    narrow (constant_count s n * widths s ts) (and_parts (fit s ts) (is_width (constant_count s n * widths s ts)) (and_parts (fits s n) (fit s ts && is_width (constant_count s n * widths s ts)) h).1).1
width_narrow s (Cast signed t) h = width_narrow s t h
width_narrow s (Paren t) h = width_narrow s t h

-- the parts of a concatenation and of a replication

pub concat_narrow : (s : Names) (e : Expr) (ts : Bor (List Expr)) → e ≡ expr.Concat ts → fault s (plain e) false ≡ None → widths s (plain_list ts.now) ≤ 128
concat_narrow s e ts is h =
    narrow (widths s (plain_list ts.now)) (and_parts (fit s (plain_list ts.now)) (is_width (widths s (plain_list ts.now))) (sym (fits-Concat s ts) ∙ (ap (λ x. fits s (plain x)) (sym is) ∙ fits_without_fault s false (plain e) h))).1

pub record Factors (n w : ℕ) : Type 0 where
  pub copies : n ≤ 128
  pub part : w ≤ 128
  pub all : n * w ≤ 128

factors : (n w : ℕ) → 1 ≤ n * w → n * w ≤ 128 → Factors n w
factors zero w low high = absurd (omega (arith, low))
factors (suc k) zero low high = absurd (omega (arith, low))
factors (suc k) (suc p) low high = record { copies = omega (arith, high); part = omega (arith, high); all = high }

pub repeat_narrow : (s : Names) (e : Expr) (n : Bor Expr) (ts : Bor (List Expr)) → e ≡ expr.Repeat n ts → fault s (plain e) false ≡ None → Factors (constant_count s (plain n.now)) (widths s (plain_list ts.now))
repeat_narrow s e n ts is h =
    let w = constant_count s (plain n.now) * widths s (plain_list ts.now) in
    let k = and_parts (fits s (plain n.now)) (fit s (plain_list ts.now) && is_width w) (sym (fits-Repeat s n ts) ∙ (ap (λ x. fits s (plain x)) (sym is) ∙ fits_without_fault s false (plain e) h)) in
    let m = (and_parts (fit s (plain_list ts.now)) (is_width w) k.1).1 in
    factors (constant_count s (plain n.now)) (widths s (plain_list ts.now)) (ltb-true 0 w (and_parts (nat_lt 0 w) (nat_lt w 129) m).0) (narrow w m)
