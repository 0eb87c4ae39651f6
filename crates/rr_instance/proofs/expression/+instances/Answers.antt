use Rattle.std.proofs.Common.{rules, arith, ap, ◌∙◌, length}
use Rattle.rr_syntax.specs.declared.tree.Expr.{Expr, the_lemmas}
use Rattle.rr_syntax.specs.Expressions.{spell}
use Rattle.rr_syntax.specs.View.{plain, plain_list}
use Rattle.rr_syntax.proofs.Lengths.{more_len, part_len, more_sum, parts_len, size-Concat, size-Repeat}
use Rattle.rr_syntax.proofs.Sums.{sum_within}
use Rattle.rr_instance.proofs.Snocs.{parts_none, parts_more}
use Rattle.rr_instance.proofs.expression.+instances.Goals as goal

pub expression_instance-expression_instances-requires : goal.expression_instance-expression_instances-requires
expression_instance-expression_instances-requires t c = (
  search (rules, the_lemmas),
  let f = c.requires.fits in
      let e = ap (λ (x : Expr). length (spell (plain x))) c.in-Concat.is ∙ size-Concat c.in-Concat.parts in
      let p = parts_len (plain_list c.in-Concat.parts.now) in
      omega (arith, f, e, p),
)

pub expression_instance-expression_instances-requires-in-Repeat : goal.expression_instance-expression_instances-requires-in-Repeat
expression_instance-expression_instances-requires-in-Repeat t c = (
  search (rules, the_lemmas),
  let f = c.requires.fits in
      let e = ap (λ (x : Expr). length (spell (plain x))) c.in-Repeat.is ∙ size-Repeat c.in-Repeat.count c.in-Repeat.parts in
      let p = parts_len (plain_list c.in-Repeat.parts.now) in
      omega (arith, f, e, p),
)

pub expression_instances-loop-expr-init : goal.expression_instances-loop-expr-init
expression_instances-loop-expr-init t c = parts_none c.args.sites.now c.args.choice.now.picks.items c.new-parts.result.items c.new-parts.ensures.items

pub expression_instances-expression_instance-requires : goal.expression_instances-expression_instance-requires
expression_instances-expression_instance-requires t c = (
  search (rules, the_lemmas),
  let f = c.requires.fits in
      let w = sum_within more_len part_len more_sum c.args.list.now c.loop-expr.expr-index c.expr-item.result c.loop-expr-test.true c.expr-item.is in
      omega (arith, f, w),
)

pub expression_instances-loop-expr-preserved : goal.expression_instances-loop-expr-preserved
expression_instances-loop-expr-preserved t c =
    parts_more c.args.sites.now c.args.choice.now.picks.items c.loop-expr.parts.items c.add_part.new.parts.items c.args.list.now c.loop-expr.expr-index c.expr-item.result c.in_ok-part.part
    c.loop-expr-test.true c.expr-item.is c.loop-expr.invariant c.in_ok-part.ensures c.in_ok-add_part.ensures
