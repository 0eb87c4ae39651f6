use Rattle.std.proofs.Common.{sym, subst, arith, List, ℕ}
use Rattle.std.specs.Io.KnownBytes.{Consumes}
use Rattle.rr_edge.proofs.Streams.{read_more}
use Rattle.rr_edge.proofs.reader.read_front.Goals as goal

-- the bytes so far, and then those of this read
pub loop-bytes-preserved : goal.loop-bytes-preserved
loop-bytes-preserved g c =
    let read = c.in_ok-read_onto.ensures in
    let before = subst (Consumes _ _) (sym {A = List ℕ} c.make_room.ensures) c.loop-bytes.invariant.1 in
    (grind arith, read_more _ _ _ _ _ before read.front read.read)
