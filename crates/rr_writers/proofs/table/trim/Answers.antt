use Rattle.rr_writers.proofs.Entries.{trimmed}
use Rattle.rr_writers.proofs.table.trim.Goals as goal

pub returns : goal.returns
returns c = λ i. trimmed c.args.row.now.items c.truncate.new.self.items c.used-kept.result i c.truncate.ensures.items (rw c.as_slice.ensures.value at c.used-kept.ensures.rest)
