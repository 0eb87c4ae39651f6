use Rattle.std.proofs.Common.{string_bytes}
use Rattle.rr_repair_report.proofs.TextLaws.{hex_more, hex_none}
use Rattle.rr_repair_report.proofs.change.+push_hex.Goals as goal

-- src/change.rt
pub returns-then-count-eq0 : goal.returns-then-count-eq0
returns-then-count-eq0 t c = hex_none c.args.count c.args.value (string_bytes c.args.out.now) c.if-count-eq0.true

pub returns : goal.returns
returns t c = hex_more c.args.count c.args.value (string_bytes c.args.out.now) _ _ _ c.if-count-eq0.false c.in_ok-push_hex.ensures c.digit_of.ensures c.in_ok-push_str.ensures.bytes
