use Rattle.rr_meaning.proofs.Tabled as tabled
use Rattle.rr_meaning.proofs.laws.table_rows.Goals as goal

pub returns : goal.returns
returns c = tabled.table_rows
