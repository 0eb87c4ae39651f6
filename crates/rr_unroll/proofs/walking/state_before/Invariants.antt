use Rattle.std.proofs.Common.{◌≡◌, length, take}
use Rattle.rr_trace.specs.View.{plain_table}
use Rattle.rr_unroll.specs.Walking.{state_after}
use Rattle.rr_unroll.proofs.walking.state_before.Given as goal

abbrev pub invariant-loop-r : goal.invariant-loop-r
invariant-loop-r l = record {
  width : length l.state.items ≡ l.transition.state_bits;
  reached : l.state.items ≡ state_after l.transition l.choice l.transition.start (take l.r (plain_table l.table).inputs);
}
