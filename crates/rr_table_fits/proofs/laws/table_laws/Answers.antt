use Rattle.rr_table_fits.proofs.Fitting.{tables_fit}
use Rattle.rr_table_fits.proofs.Sampling.{samples_fit}
use Rattle.rr_table_fits.proofs.Standing.{samples_stand, tables_stand}
use Rattle.rr_table_fits.proofs.laws.table_laws.Goals as goal

pub returns-clause-read : goal.returns-clause-read
returns-clause-read c = tables_fit

pub returns-clause-stands : goal.returns-clause-stands
returns-clause-stands c = tables_stand

pub returns-clause-sampled : goal.returns-clause-sampled
returns-clause-sampled c = samples_fit

pub returns-clause-sampled_stands : goal.returns-clause-sampled_stands
returns-clause-sampled_stands c = samples_stand
