use Rattle.std.proofs.Common.{arith}
use Rattle.std.proofs.lemmas.Bool.{eqb-true}
use Rattle.rr_writers.proofs.Entries.{no_items}
use Rattle.rr_writers.proofs.table.has_none.Goals as goal

pub returns : goal.returns
returns c = λ t. let e = eqb-true c.len.result 0 t in no_items c.args.row.now.items (omega (arith, e, c.len.ensures, c.args.row.now.ok))
