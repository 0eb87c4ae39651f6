use Rattle.std.proofs.Common.{◌≡◌, ◌++◌, sym, ◌∙◌, ap, arith, length}
use Rattle.rr_expr.specs.Selects.{repeated}
use Rattle.rr_expr.proofs.Indices.{repeated_one, repeated_next, length_repeated, room_for_one}
use Rattle.rr_expr.proofs.values.repeated.Goals as goal

pub loop-done-init : goal.loop-done-init
loop-done-init c = (repeated_one c.args.word, omega arith, c.requires.low)

pub append-whole-requires : goal.append-whole-requires
append-whole-requires c = rw c.loop-done.invariant.0 (room_for_one c.loop-done.done c.args.copies c.args.word c.loop-done-test.true c.requires.high)

pub loop-done-preserved : goal.loop-done-preserved
loop-done-preserved c = (c.append-whole.ensures ∙ ap (λ ys. c.args.word ++ ys) c.loop-done.invariant.0 ∙ sym (repeated_next c.loop-done.done c.args.word), omega arith, omega (arith, c.loop-done-test.true))

pub returns-clause-value : goal.returns-clause-value
returns-clause-value c =
    let e : c.loop-done.done ≡ c.args.copies = omega (arith, c.loop-done.invariant.2, c.loop-done-test.false) in
    c.loop-done.invariant.0 ∙ ap (λ n. repeated n c.args.word) e

pub returns-clause-width : goal.returns-clause-width
returns-clause-width c =
    let e : c.loop-done.done ≡ c.args.copies = omega (arith, c.loop-done.invariant.2, c.loop-done-test.false) in
    ap length (c.loop-done.invariant.0 ∙ ap (λ n. repeated n c.args.word) e) ∙ length_repeated c.args.copies c.args.word
