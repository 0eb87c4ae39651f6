use Rattle.std.proofs.Common.{arith}
use Rattle.rr_expr_gate_tests.proofs.sites.is_tested.Goals as goal

pub condition_of-requires : goal.condition_of-requires
condition_of-requires c = record { high = omega arith; few = c.requires.few; none = c.requires.tree }

pub agrees_always-requires : goal.agrees_always-requires
agrees_always-requires c = record {
  positive = omega arith;
  high = omega arith;
  count = omega (arith, c.in_ok-circuit.ensures, c.requires.count);
  none = c.requires.instance;
  low = c.requires.low;
  wide = c.requires.wide;
}
