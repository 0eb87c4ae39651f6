use Rattle.std.proofs.Common.{◌≡◌, ℕ, drop}
use Rattle.rr_check.specs.Parts.{Covers}
use Rattle.rr_check.proofs.Joins.{Gone}
use Rattle.rr_check.proofs.part.check_parts.Given as goal

abbrev pub invariant-loop-part : goal.invariant-loop-part
invariant-loop-part l = record {
  room : l.work ≡ l.formula.vars;
  gone : (start end : ℕ) → Covers start end l.parts → Gone l.formula.clauses l.journal.lines start end l.verdict (drop l.part-index l.parts);
}
