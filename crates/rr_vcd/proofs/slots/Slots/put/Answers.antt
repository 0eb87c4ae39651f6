use Rattle.std.proofs.Common.{rules}
use Rattle.rr_vcd.proofs.Slotting.{put_is}
use Rattle.rr_vcd.proofs.slots.Slots.put.Goals as goal
use Rattle.rr_vcd.proofs.slots.Slots.put.Goals.{in-Ok, in-Err}

pub returns : goal.returns
returns c =
    elim c.match-insert.branch [
      | in-Ok w ↦ rw (w.result-is, ← c.self.view_is, w.in-Ok.ensures.entries) (λ t. put_is c.args.id c.args.slot c.self.inside.slots.entries t)
      | in-Err w ↦ rw w.result-is (search rules)
    ]
