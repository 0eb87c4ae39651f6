use Rattle.rr_derive.proofs.LratLines.{deletion_is, id_then, no_deletion_line, no_id_line}
use Rattle.rr_derive.proofs.read.entry_of.Goals as goal
use Rattle.rr_derive.proofs.read.entry_of.Goals.{in-Some-deletion_then, in-None-deletion_then}

pub returns-in_default : goal.returns-in_default
returns-in_default c = no_id_line c.args.text.now c.in_default.ensures.none

pub returns-after-deletion_then : goal.returns-after-deletion_then
returns-after-deletion_then c =
    let is = id_then c.args.text.now c.in-Some.id c.in-Some.after.now c.in-Some.ensures.some in
    elim c.match-deletion_then.branch [
      | in-Some-deletion_then w ↦ rw w.result-is (deletion_is _ c.in-Some.id c.in-Some.after.now c.in-Some.ensures.fits is _ _ c.in-Some-behind.ensures w.in-Some-deletion_then.ensures)
      | in-None-deletion_then w ↦ rw w.result-is (no_deletion_line _ c.in-Some.id c.in-Some.after.now c.in-Some.ensures.fits is _ c.in-Some-behind.ensures w.in-None-deletion_then.ensures)
    ]
