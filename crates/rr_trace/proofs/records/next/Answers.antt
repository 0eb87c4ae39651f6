use Rattle.std.proofs.Common.{inl, rules}
use Rattle.rr_trace.proofs.Readings.{follows}
use Rattle.rr_trace.proofs.records.next.Goals as goal
use Rattle.rr_trace.proofs.records.next.Goals.{in-Ok, in-Err}

pub returns : goal.returns
returns c coming h = elim c.match-read_byte_record.branch [
  | in-Ok w ↦ rw w.result-is (follows c.args.reader.now _ _ _ coming h (w.in-Ok.ensures.reads h.plain h.ready) (inl (w.in-Ok.ensures.ready h.plain)))
  | in-Err w ↦ rw w.result-is (search rules)
]
