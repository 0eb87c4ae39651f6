use Rattle.std.proofs.Common.{◌∙◌, ap}
use Rattle.rr_expr.specs.Indices.{integer_of}
use Rattle.rr_flat.specs.Targets.{is_memory}
use Rattle.rr_named_bits.proofs.Runs.{index_run}
use Rattle.rr_named_bits.proofs.select.at_index.Goals as goal

pub returns-in-Memory : goal.returns-in-Memory
returns-in-Memory c = rw c.in-Memory.is (rw c.word_at.ensures at c.word_of.ensures)

pub returns-in-Signal : goal.returns-in-Signal
returns-in-Signal c = c.run.ensures ∙ index_run c.args.entity.now (integer_of c.args.index) (ap is_memory c.in-Signal.is)

pub returns-in-Constant : goal.returns-in-Constant
returns-in-Constant c = c.run-in-Constant.ensures ∙ index_run c.args.entity.now (integer_of c.args.index) (ap is_memory c.in-Constant.is)

pub returns-in-Instance : goal.returns-in-Instance
returns-in-Instance c = c.run-in-Instance.ensures ∙ index_run c.args.entity.now (integer_of c.args.index) (ap is_memory c.in-Instance.is)
