use Rattle.std.proofs.Common.{◌≡◌, ◌++◌, [], length, take, sym, ◌∙◌, ap, ap₂, arith, rules, length-append, ℕ, ◌*◌, List, Bool}
use Rattle.std.proofs.lemmas.List.{append-nil}
use Rattle.rr_syntax.specs.declared.tree.Expr.{the_lemmas}
use Rattle.rr_syntax.specs.View.{plain, plain_list}
use Rattle.rr_expr.specs.Scopes.{env_of}
use Rattle.rr_expr.specs.Faults.{constant_count}
use Rattle.rr_expr.specs.Selects.{count, repeated}
use Rattle.rr_expr.specs.Values.{own, form, widths, values}
use Rattle.rr_expr.proofs.Parts.{fit_at, widths_next, values_next, widths_none, values_none}
use Rattle.rr_expr.proofs.Alone.{own_concat, own_repeat, own_cast}
use Rattle.rr_expr.proofs.values.+values.Goals as goal
use Rattle.rr_expr.proofs.values.+values.Goals.{parts_value-in-None, parts_value-in-Some}

pub parts_width-loop-part-init : goal.parts_width-loop-part-init
parts_width-loop-part-init t c = (widths_none c.args.scope.now, c.requires.noted)

pub parts_width-own_shape-total-requires : goal.parts_width-own_shape-total-requires
parts_width-own_shape-total-requires t c = (search (rules, the_lemmas), ((fit_at c.args.scope.now c.args.parts.now c.loop-part.part-index c.part-item.result c.requires.fit c.loop-part-test.true c.part-item.is).0, c.loop-part.invariant.1))

pub parts_width-overflow_add-total : goal.parts_width-overflow_add-total
parts_width-overflow_add-total t c =
    let p = fit_at c.args.scope.now c.args.parts.now c.loop-part.part-index c.part-item.result c.requires.fit c.loop-part-test.true c.part-item.is in
    let w : c.own_shape-total.result.width ≡ (form c.args.scope.now (plain c.part-item.result)).width = ap (λ a. a.width) c.own_shape-total.ensures.value in
    omega (arith, p.1, w, c.loop-part.invariant.0, c.requires.high)

pub parts_width-loop-part-preserved : goal.parts_width-loop-part-preserved
parts_width-loop-part-preserved t c =
    let n = widths_next c.args.scope.now c.args.parts.now c.loop-part.part-index c.part-item.result c.loop-part-test.true c.part-item.is in
    let w : c.own_shape-total.result.width ≡ (form c.args.scope.now (plain c.part-item.result)).width = ap (λ a. a.width) c.own_shape-total.ensures.value in
    (omega (arith, n, w, c.loop-part.invariant.0), c.own_shape-total.ensures.noted)

pub parts_value-loop-part-init : goal.parts_value-loop-part-init
parts_value-loop-part-init t c = (values_none c.args.scope.now (env_of c.args.env.now), widths_none c.args.scope.now, c.requires.noted)

pub parts_value-own_value-low-requires : goal.parts_value-own_value-low-requires
parts_value-own_value-low-requires t c = (search (rules, the_lemmas), ((fit_at c.args.scope.now c.args.parts.now c.loop-part.part-index c.part-item.result c.requires.fit c.loop-part-test.true c.part-item.is).0, c.loop-part.invariant.2))

pub parts_value-append-requires : goal.parts_value-append-requires
parts_value-append-requires t c =
    let p = fit_at c.args.scope.now c.args.parts.now c.loop-part.part-index c.part-item.result c.requires.fit c.loop-part-test.true c.part-item.is in
    let h : length c.in-Some.high ≡ widths c.args.scope.now (plain_list (take c.loop-part.part-index c.args.parts.now)) = rw c.in-Some.is at c.loop-part.invariant.1 in
    omega (arith, p.1, h, c.own_value-low.ensures.width, c.requires.high)

pub parts_value-loop-part-preserved : goal.parts_value-loop-part-preserved
parts_value-loop-part-preserved t c =
    let next = values_next c.args.scope.now (env_of c.args.env.now) c.args.parts.now c.loop-part.part-index c.part-item.result c.loop-part-test.true c.part-item.is in
    let wide = widths_next c.args.scope.now c.args.parts.now c.loop-part.part-index c.part-item.result c.loop-part-test.true c.part-item.is in
    elim c.match-whole.branch [
      | parts_value-in-None w ↦
          let h : [] ≡ values c.args.scope.now (plain_list (take c.loop-part.part-index c.args.parts.now)) (env_of c.args.env.now) = rw w.in-None.is at c.loop-part.invariant.0 in
          let k : 0 ≡ widths c.args.scope.now (plain_list (take c.loop-part.part-index c.args.parts.now)) = rw w.in-None.is at c.loop-part.invariant.1 in
          rw w.whole-is (c.own_value-low.ensures.value ∙ sym (append-nil _) ∙ ap (λ ys. own c.args.scope.now (plain c.part-item.result) (env_of c.args.env.now) ++ ys) h ∙ sym next, omega (arith, wide, k, c.own_value-low.ensures.width), c.own_value-low.ensures.noted)
      | parts_value-in-Some w ↦
          let h : w.in-Some.high ≡ values c.args.scope.now (plain_list (take c.loop-part.part-index c.args.parts.now)) (env_of c.args.env.now) = rw w.in-Some.is at c.loop-part.invariant.0 in
          let k : length w.in-Some.high ≡ widths c.args.scope.now (plain_list (take c.loop-part.part-index c.args.parts.now)) = rw w.in-Some.is at c.loop-part.invariant.1 in
          rw w.whole-is (w.append.ensures ∙ ap (λ ys. ys ++ w.in-Some.high) c.own_value-low.ensures.value ∙ ap (λ ys. own c.args.scope.now (plain c.part-item.result) (env_of c.args.env.now) ++ ys) h ∙ sym next, ap length w.append.ensures ∙ length-append c.own_value-low.result w.in-Some.high ∙ omega (arith, wide, k, c.own_value-low.ensures.width), c.own_value-low.ensures.noted)
    ]

pub own_value-returns-in-Concat-clause-value : goal.own_value-returns-in-Concat-clause-value
own_value-returns-in-Concat-clause-value t c = own_concat c.args.scope.now c.args.expr.now _ (env_of c.args.env.now) _ c.in-Concat.is c.parts_value.ensures.value c.parts_value.ensures.width

pub own_value-returns-in-Repeat-clause-value : goal.own_value-returns-in-Repeat-clause-value
own_value-returns-in-Repeat-clause-value t c =
    let n : c.count_of-copies.result ≡ constant_count c.args.scope.now (plain _) = c.count_of-copies.ensures ∙ ap count c.constant_index.ensures.value in
    own_repeat c.args.scope.now c.args.expr.now _ _ (env_of c.args.env.now) _ c.in-Repeat.is (c.repeated.ensures.value ∙ ap₂ (λ (k : ℕ) (xs : List Bool). repeated k xs) n c.parts_value-word.ensures.value) (c.repeated.ensures.width ∙ ap₂ (λ (x y : ℕ). x * y) n c.parts_value-word.ensures.width)

pub own_value-returns-in-Cast-clause-value : goal.own_value-returns-in-Cast-clause-value
own_value-returns-in-Cast-clause-value t c = own_cast c.args.scope.now c.args.expr.now _ _ (env_of c.args.env.now) _ c.in-Cast.is c.own_value.ensures.value c.own_value.ensures.width
