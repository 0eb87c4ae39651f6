use Rattle.std.proofs.Common.{rules}
use Rattle.rr_trace.proofs.Fields.{blanks_end, blanks_all}
use Rattle.rr_trace.proofs.header.without_start.Goals as goal

pub returns-then-not-is_blank : goal.returns-then-not-is_blank
returns-then-not-is_blank c = blanks_end c.args.field.now c.loop-at.at c.loop-at-test.true c.loop-at.invariant (search (rules, c.is_blank.ensures, c.if-not-is_blank.true))

pub returns : goal.returns
returns c = blanks_all c.args.field.now c.loop-at.at c.loop-at-test.false c.loop-at.auto.at-end c.loop-at.invariant
