use Rattle.std.proofs.Common.{◌≡◌, ◌+◌, length, map, take}
use Rattle.rr_rounds.specs.Joined.{joined_step}
use Rattle.rr_members.proofs.members.Members.joined_by.Given as goal

abbrev pub invariant-loop-index : goal.invariant-loop-index
invariant-loop-index l = record {
  first : l.journal.first ≡ length l.self.formula.clauses + 1;
  lines : l.journal.lines ≡ map (joined_step l.self.formula l.self.state) (take l.index l.order);
}
