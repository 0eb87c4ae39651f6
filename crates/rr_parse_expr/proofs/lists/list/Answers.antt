use Rattle.std.proofs.Common.{rules, arith, Ok, ◌+◌, ◌≡◌, ◌∷◌, []}
use Rattle.rr_syntax.specs.Words.{mark_comma}
use Rattle.rr_parse_expr.specs.Lists.{Refuses}
use Rattle.rr_parse_expr.proofs.Answered.{mark_inside}
use Rattle.rr_parse_expr.proofs.FrontMarks.{mark_stands}
use Rattle.rr_parse_expr.proofs.Listed.{row_first, row_more, list_made}
use Rattle.rr_parse_expr.proofs.lists.list.Goals as goal
use Rattle.rr_parse_expr.proofs.lists.list.Goals.{else-loop-read-test, then-loop-read-test+in-Err}

pub loop-read-init : goal.loop-read-init
loop-read-init g c =
    let r : goal.F-post g c.args.read c.args.from (Ok c.in_ok-first.first) = search rules in
    let e : c.add.new.items.items ≡ c.in_ok-first.first.value ∷ [] = search rules in
    (row_first _ _ _ _ _ _ e r, (c.requires.moves c.args.from c.in_ok-first.first (omega arith) r).1)

pub overflow_add-next : goal.overflow_add-next
overflow_add-next g c = let h = mark_inside c.args.tokens.now c.loop-read.next mark_comma (mark_stands _ c.is_mark.ensures c.loop-read-test.true) (omega arith) in omega arith

pub loop-read-smaller : goal.loop-read-smaller
loop-read-smaller g c =
    let h = mark_inside c.args.tokens.now c.loop-read.next mark_comma (mark_stands _ c.is_mark.ensures c.loop-read-test.true) (omega arith) in
    let r : goal.F-post g c.args.read (c.loop-read.next + 1) (Ok c.in-Ok.more) = search rules in
    let m = c.requires.moves (c.loop-read.next + 1) c.in-Ok.more (omega arith) r in
    omega (arith, m.0, m.1)

pub loop-read-preserved : goal.loop-read-preserved
loop-read-preserved g c =
    let h = mark_inside c.args.tokens.now c.loop-read.next mark_comma (mark_stands _ c.is_mark.ensures c.loop-read-test.true) (omega arith) in
    let r : goal.F-post g c.args.read (c.loop-read.next + 1) (Ok c.in-Ok.more) = search rules in
    (row_more _ _ _ _ _ _ _ _ c.in_ok-add-in-Ok.ensures c.loop-read.invariant.0 (c.is_mark.ensures.0 c.loop-read-test.true) r, (c.requires.moves (c.loop-read.next + 1) c.in-Ok.more (omega arith) r).1)

pub returns : goal.returns
returns g c = elim c.loop-read-test.branch [
  | else-loop-read-test w ↦
      list_made _ _ _ _ _ _ c.into_bump_slice.ensures c.loop-read.invariant.0 (λ e. absurd (let t = c.is_mark.ensures.1 e in cc (t, w.loop-read-test.false))) c.loop-read.invariant.1
  | then-loop-read-test+in-Err w ↦
      (let r : Refuses (λ at o. goal.F-post g c.args.read at o) (c.loop-read.next + 1) = search rules in
      list_made _ _ _ _ _ _ c.into_bump_slice.ensures c.loop-read.invariant.0 (λ e. r) c.loop-read.invariant.1)
]
