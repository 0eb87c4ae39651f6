use Rattle.std.proofs.Common.{◌≡◌, take}
use Rattle.rr_flat.specs.Inputs.{row_inputs}
use Rattle.rr_flat.proofs.reading.all_but.Given as goal

abbrev pub invariant-loop-id : goal.invariant-loop-id
invariant-loop-id l = l.others.items ≡ row_inputs l.clock (take l.id-index l.ids)
