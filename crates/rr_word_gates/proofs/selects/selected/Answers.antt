use Rattle.std.proofs.Common.{rules, arith}
use Rattle.rr_arith.proofs.ShiftLaws.{Filled-none}
use Rattle.rr_word_gates.proofs.Carrying.{Filled-bit, Filled-carries}
use Rattle.rr_word_gates.proofs.SelectLaws.{selected_here}
use Rattle.rr_word_gates.proofs.selects.selected.Goals as goal

pub loop-i-init : goal.loop-i-init
loop-i-init c = Filled-none _ _ _ (search rules)

pub loop-i-preserved : goal.loop-i-preserved
loop-i-preserved c =
    let e = c.in_ok-bit.ensures in
    rw c.in_ok-push.ensures.items (Filled-bit _ _ _ _ _ _ _ c.loop-i.invariant e.extends (selected_here _ _ _ c.args.xs.now c.args.ys.now c.args.signed c.args.range c.args.below _ c.loop-i.i c.loop-i.invariant.extends c.requires.x c.requires.y e.value))

pub returns-clause-value : goal.returns-clause-value
returns-clause-value c = Filled-carries _ _ _ _ _ _ c.loop-i.invariant (omega arith)
