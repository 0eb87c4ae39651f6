use Rattle.std.proofs.Common.{◌∙◌, sym, ap}
use Rattle.rr_writers.specs.Tables.{entry, rows_of}
use Rattle.rr_writers.proofs.Entries.{blank_row, blank_past}
use Rattle.rr_writers.proofs.table.BitTable.is_blank.Goals as goal

pub returns-in-Some : goal.returns-in-Some
returns-in-Some c = λ t b e. sym (ap (λ z. entry z b) c.self.view_is) ∙ (sym (ap (λ z. entry (rows_of z) b) c.deref.ensures.value) ∙ blank_row c.deref.result.now c.args.signal c.in-Some.row.now _ b c.in-Some.ensures.lookup.1 (c.has_none.ensures t) e)

pub returns-in-None : goal.returns-in-None
returns-in-None c = λ t b e. sym (ap (λ z. entry z b) c.self.view_is) ∙ (sym (ap (λ z. entry (rows_of z) b) c.deref.ensures.value) ∙ blank_past c.deref.result.now c.args.signal b c.in-None.ensures.lookup.3 e)
