use Rattle.std.proofs.Common.{rules}
use Rattle.rr_trace.proofs.Numerals.{unknown_more}
use Rattle.rr_trace.proofs.cell.Numeral.then.Goals as goal

pub returns : goal.returns
returns c n h = record {
  value = c.with_digit.ensures n.0 h.value;
  unknown = rw (c.from.ensures, c.from-2.ensures) (unknown_more c.args.self.unknown n.1 c.args.radix c.args.digit.unknown h.unknown);
}
