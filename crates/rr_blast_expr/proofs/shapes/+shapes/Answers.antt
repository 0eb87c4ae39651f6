use Rattle.std.proofs.Common.{◌≡◌, false, ℕ, ◌*◌, refl, sym, ◌∙◌, ap, ap₂, arith, rules}
use Rattle.rr_syntax.specs.declared.tree.Expr.{the_lemmas}
use Rattle.rr_syntax.specs.View.{plain, plain_list}
use Rattle.rr_expr.specs.declared.types.Shape.{Shape}
use Rattle.rr_expr.specs.declared.operators.Infix.TheVariants.{Arithmetic, Shifted, Compared, Both, Either}
use Rattle.rr_expr.specs.Operators.{joined, prefix_shape}
use Rattle.rr_expr.specs.Values.{form, unsigned_of}
use Rattle.rr_expr.proofs.Equations.{form-Unary, form-Cond, form-Concat, form-Repeat, form-Cast, form-Paren}
use Rattle.rr_expr.proofs.Parts.{fit_at, widths_next, widths_none}
use Rattle.rr_expr.proofs.Sound.{fit_without_faults}
use Rattle.rr_blast_expr.proofs.Worths.{operands, binary_shape, plain_binary}
use Rattle.rr_blast_expr.proofs.Bounds.{concat_narrow, repeat_narrow}
use Rattle.rr_blast_expr.proofs.Faultless.{none-Unary, none-Cond, none-Concat, none-Repeat, none-Cast, none-Paren, none_at}
use Rattle.rr_blast_expr.proofs.shapes.+shapes.Goals as goal

pub infix_form-own_form-requires : goal.infix_form-own_form-requires
infix_form-own_form-requires t c = (search (rules, the_lemmas), (operands c.args.scope.now (plain c.args.expr.now) _ _ _ _ c.requires.is c.requires.none (sym c.in-Arithmetic.is ∙ c.infix_of.ensures) refl).0)

pub infix_form-own_form-requires-in-Arithmetic : goal.infix_form-own_form-requires-in-Arithmetic
infix_form-own_form-requires-in-Arithmetic t c = (search (rules, the_lemmas), (operands c.args.scope.now (plain c.args.expr.now) _ _ _ _ c.requires.is c.requires.none (sym c.in-Arithmetic.is ∙ c.infix_of.ensures) refl).1)

pub infix_form-own_form-requires-in-Shifted : goal.infix_form-own_form-requires-in-Shifted
infix_form-own_form-requires-in-Shifted t c = (search (rules, the_lemmas), (operands c.args.scope.now (plain c.args.expr.now) _ _ _ _ c.requires.is c.requires.none (sym c.in-Shifted.is ∙ c.infix_of.ensures) refl).0)

pub infix_form-returns-in-Arithmetic : goal.infix_form-returns-in-Arithmetic
infix_form-returns-in-Arithmetic t c = c.joined.ensures ∙ ap₂ joined c.own_form.ensures c.own_form-in-Arithmetic.ensures ∙ binary_shape c.args.scope.now (plain c.args.expr.now) _ _ _ (Arithmetic c.in-Arithmetic.field-0) c.requires.is (sym c.in-Arithmetic.is ∙ c.infix_of.ensures)

pub infix_form-returns-in-Shifted : goal.infix_form-returns-in-Shifted
infix_form-returns-in-Shifted t c = c.own_form-in-Shifted.ensures ∙ binary_shape c.args.scope.now (plain c.args.expr.now) _ _ (plain c.args.right.now) (Shifted c.in-Shifted.field-0) c.requires.is (sym c.in-Shifted.is ∙ c.infix_of.ensures)

pub infix_form-returns-in-Compared : goal.infix_form-returns-in-Compared
infix_form-returns-in-Compared t c = c.unsigned.ensures ∙ binary_shape c.args.scope.now (plain c.args.expr.now) _ (plain c.args.left.now) (plain c.args.right.now) (Compared c.in-Compared.field-0) c.requires.is (sym c.in-Compared.is ∙ c.infix_of.ensures)

pub infix_form-returns-in-Both : goal.infix_form-returns-in-Both
infix_form-returns-in-Both t c = c.unsigned-in-Both.ensures ∙ binary_shape c.args.scope.now (plain c.args.expr.now) _ (plain c.args.left.now) (plain c.args.right.now) Both c.requires.is (sym c.in-Both.is ∙ c.infix_of.ensures)

pub infix_form-returns-in-Either : goal.infix_form-returns-in-Either
infix_form-returns-in-Either t c = c.unsigned-in-Either.ensures ∙ binary_shape c.args.scope.now (plain c.args.expr.now) _ (plain c.args.left.now) (plain c.args.right.now) Either c.requires.is (sym c.in-Either.is ∙ c.infix_of.ensures)

pub own_form-prefix_form-requires : goal.own_form-prefix_form-requires
own_form-prefix_form-requires t c = (search (rules, the_lemmas), none-Unary c.args.scope.now c.args.expr.now _ _ c.in-Unary.is c.requires)

pub own_form-infix_form-requires : goal.own_form-infix_form-requires
own_form-infix_form-requires t c = (search (rules, the_lemmas), (ap plain c.in-Binary.is ∙ plain_binary _ _ _, c.requires))

pub own_form-own_form-requires : goal.own_form-own_form-requires
own_form-own_form-requires t c = (search (rules, the_lemmas), (none-Cond c.args.scope.now c.args.expr.now _ _ _ c.in-Cond.is c.requires).yes)

pub own_form-own_form-requires-in-Cond : goal.own_form-own_form-requires-in-Cond
own_form-own_form-requires-in-Cond t c = (search (rules, the_lemmas), (none-Cond c.args.scope.now c.args.expr.now _ _ _ c.in-Cond.is c.requires).no)

pub own_form-parts_width-requires : goal.own_form-parts_width-requires
own_form-parts_width-requires t c = (search (rules, the_lemmas), (none-Concat c.args.scope.now c.args.expr.now _ c.in-Concat.is c.requires, concat_narrow c.args.scope.now c.args.expr.now _ c.in-Concat.is c.requires))

pub own_form-copies_of-copies-requires : goal.own_form-copies_of-copies-requires
own_form-copies_of-copies-requires t c = (none-Repeat c.args.scope.now c.args.expr.now _ _ c.in-Repeat.is c.requires).0

pub own_form-overflow_cast-copies : goal.own_form-overflow_cast-copies
own_form-overflow_cast-copies t c = let n = repeat_narrow c.args.scope.now c.args.expr.now _ _ c.in-Repeat.is c.requires in omega (arith, c.copies_of-copies.ensures, n.copies)

pub own_form-parts_width-requires-in-Repeat : goal.own_form-parts_width-requires-in-Repeat
own_form-parts_width-requires-in-Repeat t c = (search (rules, the_lemmas), ((none-Repeat c.args.scope.now c.args.expr.now _ _ c.in-Repeat.is c.requires).1, (repeat_narrow c.args.scope.now c.args.expr.now _ _ c.in-Repeat.is c.requires).part))

pub own_form-overflow_mul-copies : goal.own_form-overflow_mul-copies
own_form-overflow_mul-copies t c =
    let n = repeat_narrow c.args.scope.now c.args.expr.now _ _ c.in-Repeat.is c.requires in
    let e = ap₂ (λ (x y : ℕ). x * y) c.copies_of-copies.ensures c.parts_width-in-Repeat.ensures in
    omega (arith, e, n.all)

pub own_form-own_form-requires-in-Cast : goal.own_form-own_form-requires-in-Cast
own_form-own_form-requires-in-Cast t c = (search (rules, the_lemmas), none-Cast c.args.scope.now c.args.expr.now _ _ c.in-Cast.is c.requires)

pub own_form-own_form-requires-in-Paren : goal.own_form-own_form-requires-in-Paren
own_form-own_form-requires-in-Paren t c = (search (rules, the_lemmas), none-Paren c.args.scope.now c.args.expr.now _ c.in-Paren.is c.requires)

pub own_form-returns-in-Unary : goal.own_form-returns-in-Unary
own_form-returns-in-Unary t c = c.prefix_form.ensures ∙ ap (λ k. prefix_shape k (form c.args.scope.now (plain c.in-Unary.of.now))) c.prefix_of.ensures ∙ sym (ap (λ x. form c.args.scope.now (plain x)) c.in-Unary.is ∙ form-Unary c.args.scope.now _ _)

pub own_form-returns-in-Cond : goal.own_form-returns-in-Cond
own_form-returns-in-Cond t c = c.joined.ensures ∙ ap₂ joined c.own_form.ensures c.own_form-in-Cond.ensures ∙ sym (ap (λ x. form c.args.scope.now (plain x)) c.in-Cond.is ∙ form-Cond c.args.scope.now _ _ _)

pub own_form-returns-in-Concat : goal.own_form-returns-in-Concat
own_form-returns-in-Concat t c = c.unsigned.ensures ∙ ap unsigned_of c.parts_width.ensures ∙ sym (ap (λ x. form c.args.scope.now (plain x)) c.in-Concat.is ∙ form-Concat c.args.scope.now _)

pub own_form-returns-in-Repeat : goal.own_form-returns-in-Repeat
own_form-returns-in-Repeat t c = c.unsigned-in-Repeat.ensures ∙ ap₂ (λ (x y : ℕ). unsigned_of (x * y)) c.copies_of-copies.ensures c.parts_width-in-Repeat.ensures ∙ sym (ap (λ x. form c.args.scope.now (plain x)) c.in-Repeat.is ∙ form-Repeat c.args.scope.now _ _)

pub own_form-returns-in-Cast : goal.own_form-returns-in-Cast
own_form-returns-in-Cast t c = ap (λ (a : Shape). record { width = a.width; signed = c.in-Cast.signed }) c.own_form-in-Cast.ensures ∙ sym (ap (λ x. form c.args.scope.now (plain x)) c.in-Cast.is ∙ form-Cast c.args.scope.now _ _)

pub own_form-returns-in-Paren : goal.own_form-returns-in-Paren
own_form-returns-in-Paren t c = c.own_form-in-Paren.ensures ∙ sym (ap (λ x. form c.args.scope.now (plain x)) c.in-Paren.is ∙ form-Paren c.args.scope.now _)

pub parts_width-loop-i-init : goal.parts_width-loop-i-init
parts_width-loop-i-init t c = widths_none c.args.scope.now

pub parts_width-own_form-total-requires : goal.parts_width-own_form-total-requires
parts_width-own_form-total-requires t c = (search (rules, the_lemmas), none_at c.args.scope.now c.args.parts.now c.loop-i.i c.index-parts-i.result c.requires.none c.loop-i-test.true c.index-parts-i.is)

pub parts_width-overflow_add-total : goal.parts_width-overflow_add-total
parts_width-overflow_add-total t c =
    let p = (fit_at c.args.scope.now c.args.parts.now c.loop-i.i c.index-parts-i.result (fit_without_faults c.args.scope.now false (plain_list c.args.parts.now) c.requires.none) c.loop-i-test.true c.index-parts-i.is).1 in
    let w : c.own_form-total.result.width ≡ (form c.args.scope.now (plain c.index-parts-i.result)).width = ap (λ (a : Shape). a.width) c.own_form-total.ensures in
    omega (arith, p, w, c.loop-i.invariant, c.requires.high)

pub parts_width-loop-i-preserved : goal.parts_width-loop-i-preserved
parts_width-loop-i-preserved t c =
    let n = widths_next c.args.scope.now c.args.parts.now c.loop-i.i c.index-parts-i.result c.loop-i-test.true c.index-parts-i.is in
    let w : c.own_form-total.result.width ≡ (form c.args.scope.now (plain c.index-parts-i.result)).width = ap (λ (a : Shape). a.width) c.own_form-total.ensures in
    omega (arith, n, w, c.loop-i.invariant)
