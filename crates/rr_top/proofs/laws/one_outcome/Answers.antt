use Rattle.rr_top.specs.Commands.{command_of_plan}
use Rattle.rr_top.proofs.Table.{one_in_table, writes_nothing}
use Rattle.rr_top.proofs.Once.{one_outcome}
use Rattle.rr_top.proofs.laws.one_outcome.Goals as goal

pub returns-clause-table : goal.returns-clause-table
returns-clause-table c = λ plan. one_in_table plan

pub returns-clause-shelf : goal.returns-clause-shelf
returns-clause-shelf c = λ plan held v w p q. one_outcome (command_of_plan plan) (one_in_table plan) held v w p q

pub returns-clause-writes : goal.returns-clause-writes
returns-clause-writes c = λ plan none. writes_nothing plan none
