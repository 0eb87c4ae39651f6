use Rattle.std.proofs.Common.{rules, arith, ◌+◌, ◌++◌, ap, sym, ◌∙◌}
use Rattle.rr_syntax.specs.declared.tree.Expr.{the_lemmas}
use Rattle.rr_syntax.specs.View.{plain_list}
use Rattle.rr_syntax.proofs.Lengths.{more_len, part_len, more_sum}
use Rattle.rr_syntax.proofs.Sums.{sum_within, sum_next}
use Rattle.rr_expr.specs.Faults.{takes_constants}
use Rattle.rr_patch.specs.Changes.{changes, plain_changes}
use Rattle.rr_respell.specs.Printing.{literal_pieces, more_pieces}
use Rattle.rr_patch.proofs.TreeWalks.{made_Literal, made_Unary, made_Binary, made_Cond, made_Concat, made_Repeat, made_Cast, made_Paren, more_none, more_next}
use Rattle.rr_patch.proofs.expression.+walks.Goals as goal

pub expression-returns-in_ok-literal-in-Literal-clause-made : goal.expression-returns-in_ok-literal-in-Literal-clause-made
expression-returns-in_ok-literal-in-Literal-clause-made t c =
    made_Literal c.args.list.now c.args.choice.now.picks.items (plain_changes c.args.out.now.items) (plain_changes c.literal.new.out.items) c.args.at c.args.expr.now c.in-Literal.token c.in-Literal.number c.in-Literal.is
    (c.in_ok-literal-in-Literal.ensures ∙ ap (λ f. plain_changes c.args.out.now.items ++ changes c.args.at (literal_pieces f c.in-Literal.number)) c.find-found.ensures)

pub expression-returns-in_ok-next-in-Unary-clause-made : goal.expression-returns-in_ok-next-in-Unary-clause-made
expression-returns-in_ok-next-in-Unary-clause-made t c =
    made_Unary c.args.list.now c.args.choice.now.picks.items (plain_changes c.args.out.now.items) (plain_changes c.expression.new.out.items) c.args.at c.args.expr.now c.in-Unary.op c.in-Unary.of c.in-Unary.is
    c.in_ok-next-in-Unary.ensures.made

pub expression-returns-in_ok-next-in-Binary-clause-made : goal.expression-returns-in_ok-next-in-Binary-clause-made
expression-returns-in_ok-next-in-Binary-clause-made t c =
    made_Binary c.args.list.now c.args.choice.now.picks.items (plain_changes c.args.out.now.items) (plain_changes c.expression-else-takes_constants.new.out.items) (plain_changes c.expression-else-takes_constants-2.new.out.items)
    c.args.at c.in_ok-middle-in-Binary.middle c.args.expr.now c.in-Binary.op c.in-Binary.left c.in-Binary.right c.in-Binary.is (ap takes_constants (sym c.infix_of.ensures) ∙ sym c.if-takes_constants.ensures)
    c.in_ok-middle-in-Binary.ensures.made c.in_ok-middle-in-Binary.ensures.next c.in_ok-next-in-Binary.ensures.made

pub expression-returns-in_ok-next-in-Cond-clause-made : goal.expression-returns-in_ok-next-in-Cond-clause-made
expression-returns-in_ok-next-in-Cond-clause-made t c =
    made_Cond c.args.list.now c.args.choice.now.picks.items (plain_changes c.args.out.now.items) (plain_changes c.condition.new.out.items) (plain_changes c.expression-in-Cond.new.out.items) (plain_changes c.expression-in-Cond-2.new.out.items)
    c.args.at c.in_ok-question-in-Cond.question c.in_ok-colon-in-Cond.colon c.args.expr.now c.in-Cond.test c.in-Cond.yes c.in-Cond.no c.in-Cond.is
    c.in_ok-question-in-Cond.ensures.made c.in_ok-question-in-Cond.ensures.next c.in_ok-colon-in-Cond.ensures.made c.in_ok-colon-in-Cond.ensures.next c.in_ok-next-in-Cond.ensures.made

pub expression-returns-in_ok-end-in-Concat-clause-made : goal.expression-returns-in_ok-end-in-Concat-clause-made
expression-returns-in_ok-end-in-Concat-clause-made t c =
    made_Concat c.args.list.now c.args.choice.now.picks.items (plain_changes c.args.out.now.items) (plain_changes c.expressions.new.out.items) c.args.at c.args.expr.now c.in-Concat.parts c.in-Concat.is
    c.in_ok-end-in-Concat.ensures.made

pub expression-returns-in_ok-end-in-Repeat-clause-made : goal.expression-returns-in_ok-end-in-Repeat-clause-made
expression-returns-in_ok-end-in-Repeat-clause-made t c =
    made_Repeat c.args.list.now c.args.choice.now.picks.items (plain_changes c.args.out.now.items) (plain_changes c.expressions-in-Repeat.new.out.items) c.args.at c.args.expr.now c.in-Repeat.count c.in-Repeat.parts c.in-Repeat.is
    (c.in_ok-end-in-Repeat.ensures.made
    ∙ ap (λ n. plain_changes c.args.out.now.items ++ changes (c.args.at + 1 + n) (more_pieces c.args.list.now c.args.choice.now.picks.items (plain_list c.in-Repeat.parts.now))) c.expression_len-in-Repeat.ensures)

pub expression-returns-in_ok-next-in-Cast-clause-made : goal.expression-returns-in_ok-next-in-Cast-clause-made
expression-returns-in_ok-next-in-Cast-clause-made t c =
    made_Cast c.args.list.now c.args.choice.now.picks.items (plain_changes c.args.out.now.items) (plain_changes c.expression-in-Cast.new.out.items) c.args.at c.args.expr.now c.in-Cast.signed c.in-Cast.of c.in-Cast.is
    c.in_ok-next-in-Cast.ensures.made

pub expression-returns-in_ok-next-in-Paren-clause-made : goal.expression-returns-in_ok-next-in-Paren-clause-made
expression-returns-in_ok-next-in-Paren-clause-made t c =
    made_Paren c.args.list.now c.args.choice.now.picks.items (plain_changes c.args.out.now.items) (plain_changes c.expression-in-Paren.new.out.items) c.args.at c.args.expr.now c.in-Paren.of c.in-Paren.is
    c.in_ok-next-in-Paren.ensures.made

pub expressions-loop-expr-init : goal.expressions-loop-expr-init
expressions-loop-expr-init t c = (let e = more_sum.none in omega (arith, e), more_none c.args.list.now c.args.choice.now.picks.items (plain_changes c.args.out.now.items) c.args.at)

pub expressions-overflow_add-comma : goal.expressions-overflow_add-comma
expressions-overflow_add-comma t c =
    let f = c.requires.fits in
    let i = c.loop-expr.invariant.0 in
    let w = sum_within more_len part_len more_sum c.args.parts.now c.loop-expr.expr-index c.expr-item.result c.loop-expr-test.true c.expr-item.is in
    omega (arith, f, i, w)

pub expressions-expression-requires : goal.expressions-expression-requires
expressions-expression-requires t c = (
  search (rules, the_lemmas),
  let f = c.requires.fits in
      let i = c.loop-expr.invariant.0 in
      let w = sum_within more_len part_len more_sum c.args.parts.now c.loop-expr.expr-index c.expr-item.result c.loop-expr-test.true c.expr-item.is in
      omega (arith, f, i, w),
)

pub expressions-loop-expr-preserved : goal.expressions-loop-expr-preserved
expressions-loop-expr-preserved t c = (
  let i = c.loop-expr.invariant.0 in
      let n = c.in_ok-next.ensures.next in
      let w = sum_next more_len part_len more_sum c.args.parts.now c.loop-expr.expr-index c.expr-item.result c.loop-expr-test.true c.expr-item.is in
      omega (arith, i, n, w),
  more_next c.args.list.now c.args.choice.now.picks.items (plain_changes c.args.out.now.items) (plain_changes c.loop-expr.out.items) (plain_changes c.expression.new.out.items) c.args.parts.now c.loop-expr.expr-index
      c.expr-item.result c.args.at c.loop-expr.comma c.loop-expr-test.true c.expr-item.is c.loop-expr.invariant.0 c.loop-expr.invariant.1 c.in_ok-next.ensures.made,
)
