use Rattle.rr_made_input.proofs.TextLaws.{Counted}
use Rattle.rr_made_input.proofs.table.all_counted.Given as goal

abbrev pub invariant-loop-i : goal.invariant-loop-i
invariant-loop-i l = Counted l.reset l.enable l.right l.values l.after.items l.i
