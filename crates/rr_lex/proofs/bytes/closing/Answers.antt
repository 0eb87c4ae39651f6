use Rattle.std.proofs.Common.{◌+◌, drop, get_or, ◌∙◌, sym, arith, rules, ◌==◌}
use Rattle.std.proofs.lemmas.Bool.{and_left, and_right}
use Rattle.std.proofs.lemmas.Bool.Decides.{nat_tests}
use Rattle.rr_lex.specs.Bytes.{is, begins}
use Rattle.rr_lex.proofs.Facts.{closing-stops, closing-goes, closing-ends}
use Rattle.rr_lex.proofs.bytes.closing.Goals as goal
use Rattle.rr_lex.proofs.bytes.closing.Goals.{else-bytes-at-via-then-bytes-at+else-has, else-bytes-at-via-else-bytes-at}

pub returns-then-has : goal.returns-then-has
returns-then-has c = sym (c.loop-at.invariant.same ∙ closing-stops c.args.first c.args.second c.loop-at.at c.args.bytes.now (omega arith) (search rules) (search rules))

pub loop-at-preserved : goal.loop-at-preserved
loop-at-preserved c = record { after = omega arith; within = omega arith; same = c.loop-at.invariant.same ∙ closing-goes c.args.first c.args.second c.loop-at.at c.args.bytes.now (omega arith) (elim c.else-bytes-at.branch [ else-bytes-at-via-then-bytes-at+else-has w ↦ and_right (get_or c.args.bytes.now c.loop-at.at 0 == c.args.first) (begins (is c.args.second) (drop (c.loop-at.at + 1) c.args.bytes.now)) (search rules) | else-bytes-at-via-else-bytes-at w ↦ and_left (get_or c.args.bytes.now c.loop-at.at 0 == c.args.first) (begins (is c.args.second) (drop (c.loop-at.at + 1) c.args.bytes.now)) (grind (arith, nat_tests)) ]) }

pub returns : goal.returns
returns c = sym (c.loop-at.invariant.same ∙ closing-ends c.args.first c.args.second c.loop-at.at c.args.bytes.now (omega arith))
