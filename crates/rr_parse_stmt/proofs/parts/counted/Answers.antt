use Rattle.std.proofs.Common.{◌≡◌, ◌<◌, length, arith}
use Rattle.std.proofs.lemmas.Bool.Decides.{nat_tests}
use Rattle.rr_parse_stmt.proofs.Choices.{counted_labels, counted_first, counted_second}
use Rattle.rr_parse_stmt.proofs.parts.counted.Goals as goal

pub returns-then-not-is_empty : goal.returns-then-not-is_empty
returns-then-not-is_empty c = counted_labels c.args.arm.now c.args.defaults c.requires.once (let p : 0 < length c.args.arm.now.labels.now = grind (arith, nat_tests) in p)

pub returns-then-defaults-eq0 : goal.returns-then-defaults-eq0
returns-then-defaults-eq0 c = counted_first c.args.arm.now c.args.defaults c.if-defaults-eq0.true (let p : length c.args.arm.now.labels.now ≡ 0 = grind (arith, nat_tests) in p)

pub returns-else-defaults-eq0 : goal.returns-else-defaults-eq0
returns-else-defaults-eq0 c = counted_second c.args.arm.now c.args.defaults c.if-defaults-eq0.false (let p : length c.args.arm.now.labels.now ≡ 0 = grind (arith, nat_tests) in p)
