use Rattle.std.proofs.Common.{sym, arith}
use Rattle.rr_made_input.proofs.TextLaws.{Lined-all, Lined-last, Lined-more}
use Rattle.rr_made_input.proofs.table.push_line.Goals as goal
use Rattle.rr_made_input.proofs.table.push_line.Goals.{then-i-numbers, else-i-numbers}

pub loop-i-preserved : goal.loop-i-preserved
loop-i-preserved c = elim c.if-i-numbers.branch [
  | then-i-numbers w ↦ Lined-last c.args.numbers.now c.args.text.now.items c.loop-i.text.items c.push_number.new.text.items c.loop-i.i c.from.result c.loop-i.invariant c.loop-i-test.true (sym c.from.ensures) w.if-i-numbers.true (rw w.stop-is at c.in_ok-push_number.ensures)
  | else-i-numbers w ↦ Lined-more c.args.numbers.now c.args.text.now.items c.loop-i.text.items c.push_number.new.text.items c.loop-i.i c.from.result c.loop-i.invariant c.loop-i-test.true (sym c.from.ensures) w.if-i-numbers.false (rw w.stop-is at c.in_ok-push_number.ensures)
]

pub returns : goal.returns
returns c = Lined-all c.args.numbers.now c.args.text.now.items c.loop-i.text.items c.loop-i.i c.loop-i.invariant (omega (arith, c.loop-i.auto.i-end, c.loop-i-test.false))
