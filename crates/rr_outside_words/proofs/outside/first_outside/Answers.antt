use Rattle.std.proofs.Common.{sym, ◌∙◌, arith}
use Rattle.rr_outside_words.proofs.Outsides.{none_yet, none_more, none_at_all}
use Rattle.rr_outside_words.proofs.outside.first_outside.Goals as goal

pub loop-at-init : goal.loop-at-init
loop-at-init c = none_yet c.args.tokens.now

pub returns-then-is_outside : goal.returns-then-is_outside
returns-then-is_outside c = record { within = omega arith; outside = sym c.is_outside.ensures ∙ c.if-is_outside.true; first = c.loop-at.invariant }

pub loop-at-preserved : goal.loop-at-preserved
loop-at-preserved c = none_more c.args.tokens.now c.loop-at.at c.loop-at.invariant (sym c.is_outside.ensures ∙ c.if-is_outside.false)

pub returns : goal.returns
returns c = none_at_all c.args.tokens.now c.loop-at.at c.loop-at.invariant (omega arith)
