use Rattle.std.proofs.Common.{◌≡◌, ℕ, ◌<◌, length, take}
use Rattle.rr_trace.specs.View.{plain_table}
use Rattle.rr_unroll.specs.Walking.{state_after, RowAgrees}
use Rattle.rr_unroll.proofs.judging.first_miss.Given as goal

abbrev pub invariant-loop-r : goal.invariant-loop-r
invariant-loop-r l = record {
  width : length l.state.items ≡ l.transition.state_bits;
  reached : l.state.items ≡ state_after l.transition l.choice l.transition.start (take l.r (plain_table l.table).inputs);
  before : (k : ℕ) → k < l.r → RowAgrees l.transition l.choice (plain_table l.table) k;
}
