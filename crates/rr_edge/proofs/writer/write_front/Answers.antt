use Rattle.std.proofs.Common.{arith}
use Rattle.std.proofs.Math.Seq.{take-add}
use Rattle.std.proofs.lemmas.List.{take_rest}
use Rattle.std.proofs.KnownBytes.{Appends-trans}
use Rattle.rr_edge.proofs.writer.write_front.Goals as goal

-- the bytes so far, and then those that this write took of the rest
pub loop-done-preserved : goal.loop-done-preserved
loop-done-preserved g c =
    let write = c.write_retrying-count.ensures in
    let took = rw take_rest at write.bytes in
    (omega (arith, write.bound), rw take-add (Appends-trans _ _ _ _ _ c.loop-done.invariant.1 took))
