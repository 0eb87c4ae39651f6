use Rattle.rr_vcd.proofs.Unique.{one_table, table_or_fault, one_fault}
use Rattle.rr_vcd.proofs.Fitting.{tables_fit}
use Rattle.rr_vcd.proofs.laws.one_sample.Goals as goal

pub returns-clause-one_table : goal.returns-clause-one_table
returns-clause-one_table c = one_table

pub returns-clause-table_or_fault : goal.returns-clause-table_or_fault
returns-clause-table_or_fault c = table_or_fault

pub returns-clause-one_fault : goal.returns-clause-one_fault
returns-clause-one_fault c = one_fault

pub returns-clause-fits : goal.returns-clause-fits
returns-clause-fits c = tables_fit
