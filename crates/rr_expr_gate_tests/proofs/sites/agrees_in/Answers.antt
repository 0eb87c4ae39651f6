use Rattle.std.proofs.Common.{arith}
use Rattle.rr_expr_gate_tests.proofs.sites.agrees_in.Goals as goal

pub agrees_always-requires : goal.agrees_always-requires
agrees_always-requires c = record {
  positive = omega arith;
  high = omega arith;
  count = omega (arith, c.in_ok-circuit.ensures, c.requires.count);
  none = c.requires.instance;
  low = c.requires.instance_low;
  wide = c.requires.wide;
}
