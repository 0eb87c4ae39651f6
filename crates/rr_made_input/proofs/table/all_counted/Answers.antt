use Rattle.std.proofs.Common.{refl, arith}
use Rattle.rr_made_input.proofs.TextLaws.{Counted-all, Counted-more}
use Rattle.rr_made_input.proofs.table.all_counted.Goals as goal

pub loop-i-preserved : goal.loop-i-preserved
loop-i-preserved c = rw c.in_ok-push.ensures.items (Counted-more c.args.reset c.args.enable c.args.right.now c.args.values.now c.loop-i.after.items c.loop-i.i _ _ c.counted.result c.loop-i.invariant
    c.loop-i-test.true (omega (arith, c.loop-i-test.true, c.requires)) refl refl c.counted.ensures)

pub returns-clause-value : goal.returns-clause-value
returns-clause-value c = Counted-all c.args.reset c.args.enable c.args.right.now c.args.values.now c.loop-i.after.items c.loop-i.i c.loop-i.invariant (omega (arith, c.loop-i.auto.i-end, c.loop-i-test.false))
