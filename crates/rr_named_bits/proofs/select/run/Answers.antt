use Rattle.std.proofs.Common.{pos, inl, inr}
use Rattle.rr_named_bits.proofs.Runs.{constant_run, instance_run, memory_run}
use Rattle.rr_named_bits.proofs.select.run.Goals as goal

pub returns-in-Signal : goal.returns-in-Signal
returns-in-Signal c = rw c.in-Signal.is (c.near.ensures c.in-Signal.signed)

pub returns-in-Constant : goal.returns-in-Constant
returns-in-Constant c = elim c.in-Constant.is [
  | inl h ↦ rw (h.2, c.absent-in-Constant.ensures) (constant_run h.0 h.1 c.args.count c.args.count (pos 0) (pos 0) _)
  | inr h ↦ rw (h, c.absent-in-Constant.ensures) (instance_run c.args.count c.args.count (pos 0) (pos 0) _)
]

pub returns-in-Memory : goal.returns-in-Memory
returns-in-Memory c = rw (c.in-Memory.is, c.absent.ensures) (memory_run _ _ _ _ _ c.args.count c.args.count (pos 0) (pos 0) _)
