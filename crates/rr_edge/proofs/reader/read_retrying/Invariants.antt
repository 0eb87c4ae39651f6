-- a read that failed consumed nothing
use Rattle.std.proofs.Common.{◌≡◌, length}
use Rattle.std.specs.Io.KnownBytes.{Keeps}
use Rattle.rr_edge.proofs.reader.read_retrying.Given as goal

abbrev pub invariant-loop : goal.invariant-loop
invariant-loop g l = (length l.buf ≡ length l.initial.buf) × Keeps (g.F.Read.remaining l.initial.reader) (g.F.Read.remaining l.reader)
