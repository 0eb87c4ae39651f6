use Rattle.std.proofs.Common.{length}
use Rattle.rr_derive.proofs.LratText.{Reached}
use Rattle.rr_derive.proofs.read.read_lines.Given as goal

abbrev pub invariant-loop-text : goal.invariant-loop-text
invariant-loop-text l = Reached l.clauses l.vars l.bytes l.journal l.last l.count l.text

abbrev pub decreases-loop-text : goal.decreases-loop-text
decreases-loop-text l = length l.text
